use Rattle.std.proofs.Common.{◌≡◌, [], map, sym, ◌∙◌, subst}
use Rattle.std.specs.Prelude.{None}
use Rattle.fed_bytes.specs.declared.span.Span.{Span}
use Rattle.place_core.specs.Places.{CoverEveryKeyOnce, line_of}
use Rattle.place_core.proofs.Cuts.{all_keys, whole_cover}
use Rattle.place_core.proofs.caller.whole_place.Goals as goal

whole : (one span : Span) → one ≡ span → (span.left ≡ []) × (span.right ≡ None) → one ≡ all_keys
whole one span same ends = same ∙ (λ i. record { left = ends.0 i; right = ends.1 i })

pub make-requires-clause-cover : goal.make-requires-clause-cover
make-requires-clause-cover c =
    let t2i_all = whole c.in_ok-t2i.t2i.span c.in_ok-all_keys.field-0 c.in_ok-t2i.ensures.place.1 c.in_ok-all_keys.ensures in
    let i2t_all = whole c.in_ok-i2t.i2t.span c.in_ok-all_keys-2.field-0 c.in_ok-i2t.ensures.place.1 c.in_ok-all_keys-2.ensures in
    let spo_all = whole c.in_ok-spo.spo.span c.in_ok-all_keys-3.field-0 c.in_ok-spo.ensures.place.1 c.in_ok-all_keys-3.ensures in
    let pos_all = whole c.in_ok-pos.pos.span c.in_ok-all_keys-4.field-0 c.in_ok-pos.ensures.place.1 c.in_ok-all_keys-4.ensures in
    let osp_all = whole c.in_ok-osp.osp.span c.in_ok-all_keys-5.field-0 c.in_ok-osp.ensures.place.1 c.in_ok-all_keys-5.ensures in
    let cover = (whole_cover (line_of c.in_ok-t2i.t2i) (line_of c.in_ok-i2t.i2t) (line_of c.in_ok-spo.spo) (line_of c.in_ok-pos.pos) (line_of c.in_ok-osp.osp) c.in_ok-t2i.ensures.place.0 c.in_ok-i2t.ensures.place.0 c.in_ok-spo.ensures.place.0 c.in_ok-pos.ensures.place.0 c.in_ok-osp.ensures.place.0 t2i_all i2t_all spo_all pos_all osp_all).0 in
    subst (λ born. CoverEveryKeyOnce (map line_of born)) (sym (c.of.ensures ∙ c.in_ok-born.ensures.items)) cover
