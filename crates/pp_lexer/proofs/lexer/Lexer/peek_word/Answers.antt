use Rattle.std.proofs.Common.{◌≡◌, false, ap, ◌∙◌}
use Rattle.pp_lexer.proofs.characters.PlainFrontsLemmas.{range_front}
use Rattle.pp_lexer.proofs.items.NextWordLemmas.{next_word, can_pass}
use Rattle.pp_lexer.proofs.lexer.Lexer.peek_word.Goals as goal

pub returns-clause-word : goal.returns-clause-word
returns-clause-word c =
    let left = c.find_front-front.result.left in
    let n = c.in-Some.word.taken in
    let s = c.find_front-front.new.self in
    let unspent : c.self.inside.spent ≡ false = ap (λ l. l.spent) c.self.view_is ∙ c.requires in
    rw unspent (next_word s.flags s.inner s.place left.line left.at n left.text.now c.find_front-front.result.spaced c.in-Some.word.form c.range.result
    c.range_from.result c.find_front-front.ensures.front c.in-Some.ensures
    (c.range.ensures.value ∙ range_front n left.text.now) c.range_from.ensures.value
    c.self.inside.rules)

pub returns-clause-passes : goal.returns-clause-passes
returns-clause-passes c =
    let left = c.find_front-front.result.left in
    let n = c.in-Some.word.taken in
    let s = c.find_front-front.new.self in
    let unspent : c.self.inside.spent ≡ false = ap (λ l. l.spent) c.self.view_is ∙ c.requires in
    rw unspent (can_pass s.flags s.inner s.place left.line left.at n left.text.now c.find_front-front.result.spaced c.in-Some.word.form c.range.result
    c.range_from.result c.find_front-front.ensures.front c.in-Some.ensures
    (c.range.ensures.value ∙ range_front n left.text.now) c.range_from.ensures.value
    c.self.inside.rules)
