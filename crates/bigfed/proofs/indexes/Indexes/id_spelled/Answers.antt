use Rattle.std.proofs.Common.{◌≡◌, Some, None}
use Rattle.bigfed.proofs.Lasts.{id_read, no_id, as_value}
use Rattle.bigfed.proofs.indexes.Indexes.id_spelled.Goals as goal

pub returns-in-Some : goal.returns-in-Some
returns-in-Some c history term are rules spelled =
    let window = c.args.self.now.t2i in
    let read = rw c.bytes.ensures at c.number_in.ensures in
    id_read history window term c.args.key.now c.in-Some.value c.number_in.result are.writable are.t2i rules spelled
    (as_value window c.args.key.now c.in_ok-value.field-0 (Some c.in-Some.value) c.in_ok-value.ensures c.in-Some.is)
    read.short read.spelled read.fits

pub returns-in-None : goal.returns-in-None
returns-in-None c history term are rules spelled =
    let window = c.args.self.now.t2i in
    no_id history window term c.args.key.now are.writable are.t2i rules spelled
    (as_value window c.args.key.now c.in_ok-value.field-0 None c.in_ok-value.ensures c.in-None.is)
