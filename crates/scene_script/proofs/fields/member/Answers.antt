use Rattle.toml.proofs.Views.{table_get}
use Rattle.scene_script.proofs.fields.member.Goals as goal

-- the map of a table finds what its members have
pub returns : goal.returns
returns c = table_get c.get.result c.args.key.now c.args.table.now.entries c.get.ensures.value
