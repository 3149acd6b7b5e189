-- How many records a log has, and where the gate of each stands.
use Rattle.std.proofs.Common.{◌≡◌, ℕ, List, length, map, take, ◌∙◌, ap}
use Rattle.std.proofs.lemmas.List.{length-map, take-map}
use Rattle.record_log.specs.Records.{size_of}
use Rattle.record_log.specs.Sizes.{total_of}
use Rattle.record_log.proofs.Extents.{end_from}

pub count_from : (sizes : List ℕ) (bodies : List (List ℕ)) → sizes ≡ map length bodies → length sizes ≡ length bodies
count_from sizes bodies are = ap length are ∙ length-map bodies length

pub gate_from : (sizes : List ℕ) (bodies : List (List ℕ)) (k : ℕ) → sizes ≡ map length bodies → total_of (take k sizes) ≡ size_of (take k bodies)
gate_from sizes bodies k are = end_from (take k sizes) (take k bodies) (ap (take k) are ∙ take-map length k bodies)
