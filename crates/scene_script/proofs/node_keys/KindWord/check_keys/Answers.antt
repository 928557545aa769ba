use Rattle.scene_script.specs.NodeRows.{known_of}
use Rattle.scene_script.proofs.node_keys.KindWord.check_keys.Goals as goal

pub returns-in-Splitter : goal.returns-in-Splitter
unfolding known_of
returns-in-Splitter c = rw c.in-Splitter.is c.known_keys-in-Splitter.ensures
