-- The texts that commands print, without the newline at their end. Numbers are decimal.
use Rattle.std.specs.Prelude.{ℕ, List, ◌++◌, codes}
use Rattle.std.specs.Fmt.{decimal}
use Rattle.wave_read.specs.declared.kind.Kind.{Kind}
use Rattle.wave_read.specs.declared.kind.Kind.TheVariants.{Pcm, Alaw, Ulaw, Ima}
use Rattle.wave_read.specs.FaultText as wave
use Rattle.scene_script.specs.FaultText as scene
use Rattle.snd_status.specs.declared.mix_report.MixReport.{MixReport}
use Rattle.snd_status.specs.declared.wave_report.WaveReport.{WaveReport}
use Rattle.snd_status.specs.declared.status.Status.{Status}
use Rattle.snd_status.specs.declared.status.Status.TheVariants.{Done, OutOfMemory, Usage, DepotFault, Absent, TooLong, Script, File, TextFault}

-- the text of a status. No command prints that of `Done` or `TextFault`
abbrev pub status_text : Status → List ℕ
status_text Done = codes "done"
status_text OutOfMemory = codes "out of memory"
status_text (Usage word) = codes "usage: word " ++ decimal word
status_text DepotFault = codes "depot failed"
status_text (Absent name) = codes "absent: " ++ name
status_text (TooLong name limit) = codes "too long: " ++ name ++ codes " limit " ++ decimal limit
status_text (Script fault) = codes "script: " ++ scene.fault_text fault
status_text (File resource fault) = codes "file: " ++ decimal resource ++ codes ": " ++ wave.fault_text fault
status_text TextFault = codes "text failed"

abbrev pub kind_text : Kind → List ℕ
kind_text Pcm = codes "pcm"
kind_text Alaw = codes "alaw"
kind_text Ulaw = codes "ulaw"
kind_text Ima = codes "ima"

-- what is told of a scene that was rendered
abbrev pub mix_text : MixReport → List ℕ
mix_text r =
    codes "frames " ++ decimal r.frames ++ codes " rate " ++ decimal r.rate ++ codes " channels " ++ decimal r.channels
    ++ codes " width " ++ decimal r.width ++ codes " bytes " ++ decimal r.bytes
    ++ codes " peak " ++ decimal r.peak ++ codes " sum " ++ decimal r.sum

-- what is told of a WAVE file
abbrev pub wave_text : WaveReport → List ℕ
wave_text r =
    kind_text r.wave.kind ++ codes " channels " ++ decimal r.wave.channels ++ codes " rate " ++ decimal r.wave.rate
    ++ codes " width " ++ decimal r.wave.width ++ codes " align " ++ decimal r.wave.align
    ++ codes " frames " ++ decimal r.wave.frames ++ codes " pages " ++ decimal r.pages
