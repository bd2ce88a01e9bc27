use Rattle.std.proofs.Common.{◌≡◌, ◌<◌, ◌≤◌, ◌∙◌, sym, ap, subst, length, take, true, refl, arith}
use Rattle.std.specs.Str.{IsUtf8}
use Rattle.std.specs.List.{list_all}
use Rattle.pp_lexer.specs.inner.PlainWords.{is_space}
use Rattle.pp_lexer.proofs.characters.PlainFrontsLemmas.{all_plain, cut_after_plain}
use Rattle.pp_lexer.proofs.characters.SpacesLemmas.{space_plain}
use Rattle.pp_lexer.proofs.items.PlainLexLemmas.{gone, spaces_same, spaces_placed, spaces_comments}
use Rattle.pp_lexer.proofs.lexer.LexerState.skip_spaces.Goals as goal

pub range_from-requires : goal.range_from-requires
range_from-requires c = grind (arith, cut_after_plain, all_plain, space_plain)

pub returns : goal.returns
returns c =
    let f = c.args.self.now.flags in
    let r = c.args.self.now.inner in
    let q = c.go.new.self in
    let line = c.left-left.result.line in
    let at = c.left-left.result.at in
    let text = c.left-left.result.text.now in
    let n = c.spaces_length-count.result in
    let u : IsUtf8 text = subst IsUtf8 c.as_bytes-bytes.ensures.value c.as_bytes-bytes.ensures.utf8 in
    let le : n ≤ length text = omega (arith, ap length c.as_bytes-bytes.ensures.value) in
    let some : 0 < n = omega arith in
    let passes : list_all is_space (take n text) ≡ true = ap (λ t. list_all is_space (take n t)) (sym c.as_bytes-bytes.ensures.value)
    ∙ c.spaces_length-count.ensures.passes in
    let e = c.left-left.ensures.rest_is in
    let there = gone q line at n text c.as_bytes-bytes.result.now c.range_from.result.now c.go.ensures c.as_bytes-bytes.ensures.value
    c.range_from.ensures.value in
    record {
      items = λ rules. spaces_same rules f r line at text e u q n some le passes there;
      at_end = λ rules. spaces_comments rules f r line at text e u q n some le passes there;
      places = λ rules. spaces_placed rules f r line at text e u q n some le passes there;
      over = refl;
      place = refl;
    }
