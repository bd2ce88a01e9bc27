use Rattle.std.proofs.Common.{◌∙◌, ◌≡◌, ◌∷◌, [], ap, map, nat_eq, refl, sym, true, false}
use Rattle.std.specs.Cmp.Lexicographic.{pointwise}
use Rattle.std.specs.List.{list_any}
use Rattle.std.proofs.lemmas.List.{map-append}
use Rattle.glslpp_parts.specs.FileNames.{is_among}
use Rattle.glslpp_parts.proofs.FileNamesLemmas.{among_texts}
use Rattle.glslpp_parts.proofs.include_path.push_new.Goals as goal

pub returns-then-is_among : goal.returns-then-is_among
returns-then-is_among c =
    let name = c.args.name.now in
    let names = c.args.names.now.items in
    let e : is_among name (map (λ other. other.now) names) ≡ true =
    sym (among_texts names name) ∙ ap (list_any (λ other. pointwise nat_eq other.now name)) (sym c.as_slice.ensures.value) ∙ sym c.is_among.ensures
    ∙ c.if-is_among.true in rw e refl

pub returns : goal.returns
returns c =
    let name = c.args.name.now in
    let names = c.args.names.now.items in
    let pushed = c.in_ok-push.ensures {u = tt} in
    let e : is_among name (map (λ other. other.now) names) ≡ false =
    sym (among_texts names name) ∙ ap (list_any (λ other. pointwise nat_eq other.now name)) (sym c.as_slice.ensures.value) ∙ sym c.is_among.ensures
    ∙ c.if-is_among.false in rw e (ap (map (λ other. other.now)) pushed.items ∙ map-append (λ other. other.now) names (c.args.name ∷ []))
