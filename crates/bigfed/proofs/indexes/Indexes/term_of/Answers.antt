use Rattle.std.proofs.Common.{◌≡◌, ◌++◌, ◌∙◌, Some, None, ap}
use Rattle.base_core.specs.Numbers.{number_bytes}
use Rattle.bigfed.proofs.Lasts.{term_of_read, no_term, as_value}
use Rattle.bigfed.proofs.Seats.{keeps_first}
use Rattle.bigfed.proofs.indexes.Indexes.term_of.Goals as goal

pub returns-in-Some : goal.returns-in-Some
returns-in-Some c = record {
  term = λ history are.
      let window = c.args.self.now.i2t in
      let key : c.as_slice.result.now ≡ number_bytes c.args.id =
      c.as_slice.ensures.value ∙ c.in_ok-put_u64.ensures.ok ∙ ap (λ bytes. bytes ++ number_bytes c.args.id) c.in_ok-key.ensures.items in
      let read = rw c.bytes.ensures at c.term_in.ensures in
      term_of_read history window c.args.id c.as_slice.result.now c.in-Some.value c.term_in.result are.writable are.i2t c.ranges.id.fits key
      (as_value window c.as_slice.result.now c.in_ok-value.field-0 (Some c.in-Some.value) c.in_ok-value.ensures c.in-Some.is) read;
  rules = keeps_first _ _ _ c.term_in.result c.term_in.ensures;
}

pub returns : goal.returns
returns c = record {
  term = λ history are.
      let window = c.args.self.now.i2t in
      let key : c.as_slice.result.now ≡ number_bytes c.args.id =
      c.as_slice.ensures.value ∙ c.in_ok-put_u64.ensures.ok ∙ ap (λ bytes. bytes ++ number_bytes c.args.id) c.in_ok-key.ensures.items in
      no_term history window c.args.id c.as_slice.result.now are.writable are.i2t c.ranges.id.fits key
      (as_value window c.as_slice.result.now c.in_ok-value.field-0 None c.in_ok-value.ensures c.in-None.is);
  rules = tt;
}
