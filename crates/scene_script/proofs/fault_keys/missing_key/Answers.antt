use Rattle.std.proofs.Common.{◌∙◌, ap, find, option_map}
use Rattle.toml.specs.View.{table_view}
use Rattle.scene_script.specs.FaultKeys.{is_missing, missing_key}
use Rattle.scene_script.proofs.Keys.{find_seen}
use Rattle.scene_script.proofs.fault_keys.missing_key.Goals as goal

pub returns : goal.returns
unfolding missing_key
returns c =
    ap (option_map (λ k. k.now)) c.first_missing.ensures
    ∙ find_seen (λ k. k.now) (is_missing c.args.table (table_view c.args.row.now)) c.row_keys-keys.result.now
    ∙ ap (find (is_missing c.args.table (table_view c.args.row.now))) c.row_keys-keys.ensures
