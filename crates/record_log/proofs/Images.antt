-- For the layers above: what a crash may leave of a log between two calls.
use Rattle.std.proofs.Common.{ℕ, List, Some, inl, inr}
use Rattle.disk_core.specs.Moments.{Told, EachImage}
use Rattle.record_log.specs.declared.log.RecordLog.{RecordLog}
use Rattle.record_log.specs.declared.extent.Stage.{Stage}
use Rattle.record_log.specs.declared.extent.Stage.TheVariants.{Settled, Begun, Opening}
use Rattle.record_log.specs.Logs.{KeepsRecords, IsUndecided, IsLeft, IsEitherLog}
use Rattle.record_log.specs.Records.{IsLog}
use Rattle.record_log.proofs.Held.{either_log}

-- what a settled log keeps is a log
pub keeps_logs : (log : RecordLog) (told : Told) (bodies : List (List ℕ)) → KeepsRecords log (Some told) bodies
    → EachImage log.file (λ image. IsLog image bodies) told.now
keeps_logs log told bodies keeps image is_image = inr (keeps image is_image)

left_either : (stage : Stage) (bodies : List (List ℕ)) (body image : List ℕ) → IsLeft stage bodies body image → IsEitherLog bodies body image
left_either Settled bodies body image left = absurd left
left_either (Begun size) bodies body image left = inl (inr left)
left_either (Opening size) bodies body image left = either_log image bodies body left

-- while a put is undecided, it is a log with its record or without
pub undecided_logs : (log : RecordLog) (told : Told) (bodies : List (List ℕ)) (body : List ℕ) → IsUndecided log (Some told) bodies body
    → EachImage log.file (IsEitherLog bodies body) told.now
undecided_logs log told bodies body undecided image is_image = left_either log.extent.stage bodies body image (undecided.left image is_image)
