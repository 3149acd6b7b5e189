-- A disk that begins with what is left of another is one of its images.
use Rattle.std.proofs.Common.{◌≡◌, ℕ, List, Bool, true, false, sym, ap, subst}
use Rattle.disk_core.specs.Files.{IsImage}
use Rattle.disk_core.specs.Moments.{State, Told, IsSoundState}
use Rattle.disk_mem.specs.Image.{left, IsLeft}
use Rattle.disk_mem.specs.Replay.{begun, stored_file}

left_is_image : (all : Bool) (state : State) → IsSoundState state → (file : ℕ) → IsImage (state file) (left all state file)
left_is_image true state is file = (is file).content
left_is_image false state is file = (is file).stored

pub begun_is_left : (all : Bool) (old new : Told) (bytes : ℕ → List ℕ) → IsSoundState old.now → ((file : ℕ) → bytes file ≡ left all old.now file) → new ≡ begun bytes
    → IsLeft all old new
begun_is_left all old new bytes is same begins =
    let P : Told → Type 0 = λ told. IsLeft all old told in
    subst P (sym begins) (record { stored = λ file. ap stored_file (same file); image = left_is_image all old.now is })
