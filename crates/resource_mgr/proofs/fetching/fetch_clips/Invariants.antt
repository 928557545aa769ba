use Rattle.std.proofs.Common.{◌≡◌, ◌≤◌, ◌++◌, None, Ok, IfSome, All, map, drop, length}
use Rattle.clip_decode.specs.Limits.{most_sound_bytes}
use Rattle.resource_mgr.specs.Fetching.{◌>>=◌, most_total_bytes, clips_from}
use Rattle.resource_mgr.proofs.fetching.fetch_clips.Given as goal

abbrev pub invariant-loop-number : goal.invariant-loop-number
invariant-loop-number g l =
    (g.D.Depot.writing l.depot ≡ None)
    × (g.D.Depot.faults l.depot ≡ g.D.Depot.faults l.fn.depot)
    × (g.D.Depot.files l.depot ≡ g.D.Depot.files l.fn.depot)
    × (l.total ≤ most_total_bytes)
    × (length l.clips.items ≡ l.number)
    × All (λ clip. length clip.bytes ≤ most_sound_bytes) l.clips.items
    × IfSome (g.D.Depot.files l.fn.depot) (λ files.
    clips_from files 0 0 l.resources
    ≡ (clips_from files l.number l.total (drop l.number l.resources) >>= λ more. Ok (map (λ clip. clip.bytes) l.clips.items ++ more)))
