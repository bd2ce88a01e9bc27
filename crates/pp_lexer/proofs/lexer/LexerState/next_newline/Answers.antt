use Rattle.std.proofs.Common.{subst, arith}
use Rattle.pp_lexer.specs.inner.PlainWords.{IsPlainNewline}
use Rattle.pp_lexer.proofs.characters.NewlinesLemmas.{lexed_newline, placed_newline}
use Rattle.pp_lexer.proofs.lexer.LexerState.next_newline.Goals as goal

pub range_from-requires : goal.range_from-requires
range_from-requires c = grind arith

pub returns-clause-lexed : goal.returns-clause-lexed
returns-clause-lexed c =
    let f = c.args.self.now.flags in
    let r = c.args.self.now.inner in
    let line = c.left-left.result.line in
    let at = c.left-left.result.at in
    let text = c.left-left.result.text.now in
    let n = c.in-Some.taken in
    let e = c.left-left.ensures.rest_is in
    let w : IsPlainNewline text n = subst (λ t. IsPlainNewline t n) c.as_bytes.ensures.value c.in-Some.ensures in
    λ rules. record {
      lexed = lexed_newline rules f r c.go.new.self line at n text c.range_from.result.now e w c.range_from.ensures.value c.go.ensures;
      placed = placed_newline rules f r c.go.new.self line at n text c.range_from.result.now e w c.range_from.ensures.value c.go.ensures c.args.self.now.place;
    }
