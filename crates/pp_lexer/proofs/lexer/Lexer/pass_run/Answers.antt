use Rattle.std.proofs.Common.{◌+◌, arith, ap, refl, subst, false}
use Rattle.std.specs.Str.{IsUtf8}
use Rattle.pp_lexer.proofs.items.TameItemsLemmas.{goes_over, gone_over}
use Rattle.pp_lexer.proofs.words.TameLemmas.{feeds_few}
use Rattle.pp_lexer.proofs.lexer.Lexer.pass_run.Goals as goal

pub overflow_cast-line : goal.overflow_cast-line
overflow_cast-line c =
    let words = c.in-Some.ensures in
    let few = feeds_few c.left-left.result.text.now c.in-Some.words.before in
    omega (arith, few, words.newlines, words.tame.more, c.left-left.ensures.room)

pub overflow_add-line : goal.overflow_add-line
overflow_add-line c =
    let words = c.in-Some.ensures in
    let few = feeds_few c.left-left.result.text.now c.in-Some.words.before in
    omega (arith, few, words.newlines, words.tame.more, c.left-left.ensures.room, c.left-left.ensures.lines)

pub go-requires-clause-lines : goal.go-requires-clause-lines
go-requires-clause-lines c =
    let words = c.in-Some.ensures in
    let few = feeds_few c.left-left.result.text.now c.in-Some.words.before in
    omega (arith, few, words.newlines, c.left-left.ensures.lines)

pub returns : goal.returns
returns c =
    let self = c.self.inside in
    let words = c.in-Some.ensures in
    let n = c.in-Some.words.before in
    let size = c.in-Some.words.taken in
    let line = c.left-left.result.line in
    let at = c.left-left.result.at in
    let text = c.left-left.result.text.now in
    let u : IsUtf8 text = subst IsUtf8 c.as_bytes.ensures.value c.as_bytes.ensures.utf8 in
    let there = gone_over c.go.new.self line at n size c.in-Some.words.newlines text c.as_bytes.result.now c.range_from.result.now c.go.ensures
    words.newlines c.as_bytes.ensures.value c.range_from.ensures.value in
    let over = goes_over self.rules self.spent line at n size text u words.tame words.value words.no_hash words.word self.state.flags self.state.inner
    self.state.place c.left-left.ensures.rest_is (record { leading_whitespace = false; start_of_line = false; had_comments = self.state.flags.had_comments })
    c.go.new.self _ refl there (ap (λ k. record { start = at + n; end = at + (n + size); line = line + k }) words.newlines) in
    rw (← c.self.view_is) (record { unspent = c.if-self.false; more = over.0; taken = over.1 })
