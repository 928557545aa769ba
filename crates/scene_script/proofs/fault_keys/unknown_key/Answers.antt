use Rattle.std.proofs.Common.{◌∙◌, ap, find, not, option_map, string_bytes}
use Rattle.std.specs.List.{list_any}
use Rattle.std.specs.Str.{bytes_eq}
use Rattle.toml.specs.View.{table_view}
use Rattle.scene_script.specs.FaultKeys.{unknown_key}
use Rattle.scene_script.specs.Fields.{member_keys}
use Rattle.scene_script.proofs.Keys.{seen_twice, unknown_among}
use Rattle.scene_script.proofs.fault_keys.unknown_key.Goals as goal

pub returns : goal.returns
unfolding unknown_key
returns c =
    seen_twice (λ k. k.now) string_bytes c.first_unknown.result
    ∙ ap (option_map string_bytes) c.first_unknown.ensures
    ∙ unknown_among c.row_keys-known.result.now c.args.row.now.entries
    ∙ ap (λ known. find (λ key. not (list_any (λ k. bytes_eq k key) known)) (member_keys (table_view c.args.row.now))) c.row_keys-known.ensures
