-- The text of a reply.
use Rattle.std.specs.Prelude.{ℕ, List, ◌++◌, codes}
use Rattle.std.specs.Fmt.{decimal}
use Rattle.scene_model.specs.declared.reply.Reply.{Reply}
use Rattle.scene_model.specs.declared.reply.Reply.TheVariants.{Done, NoSuchBus, NoInput, AlreadyAttached, Cycle, NotAttached, GainTooLarge, NotSound}

-- a reply's name and then its number, if it has one, in decimal after a space
abbrev pub reply_text : Reply → List ℕ
reply_text Done = codes "Done"
reply_text NoSuchBus = codes "NoSuchBus"
reply_text NoInput = codes "NoInput"
reply_text (AlreadyAttached to) = codes "AlreadyAttached " ++ decimal to
reply_text (Cycle node) = codes "Cycle " ++ decimal node
reply_text NotAttached = codes "NotAttached"
reply_text GainTooLarge = codes "GainTooLarge"
reply_text NotSound = codes "NotSound"
