use Rattle.std.proofs.Common.{◌∙◌, ap, sym, if◌then◌else◌, ◌∷◌, []}
use Rattle.std.specs.Prelude.{slice_get}
use Rattle.std.specs.Str.{chars}
use Rattle.uses.specs.Minified.{separator_of}
use Rattle.uses.proofs.Texts.{last_of_text}
use Rattle.uses.proofs.Minified.{separator_is, none_at_start, line_at_hash, space_if_joined}
use Rattle.uses.proofs.minifier.separator.Goals as goal

pub returns-in_default : goal.returns-in_default
returns-in_default c =
    let l = last_of_text c.args.text.now c.chars.result c.last.result c.utf8.text c.chars.ensures.rest c.last.ensures.ran in
    sym (ap (λ r. separator_of r (slice_get (chars c.args.word.now) 0)) (sym l ∙ c.in_default.is))

pub returns-then-last-eq10 : goal.returns-then-last-eq10
returns-then-last-eq10 c =
    let l = last_of_text c.args.text.now c.chars.result c.last.result c.utf8.text c.chars.ensures.rest c.last.ensures.ran in
    let f = ap (λ w. slice_get (chars w) 0) (sym c.chars-2.ensures.rest) ∙ sym c.next.ensures.steps.2 in
    sym (separator_is (chars c.args.text.now) (chars c.args.word.now) c.in-Some.last c.in-Some-next.first (sym l ∙ c.in-Some.is) (f ∙ c.in-Some-next.is)
    ∙ none_at_start c.in-Some.last c.in-Some-next.first c.if-last-eq10.true)

pub returns-then-first-eq35 : goal.returns-then-first-eq35
returns-then-first-eq35 c =
    let l = last_of_text c.args.text.now c.chars.result c.last.result c.utf8.text c.chars.ensures.rest c.last.ensures.ran in
    let f = ap (λ w. slice_get (chars w) 0) (sym c.chars-2.ensures.rest) ∙ sym c.next.ensures.steps.2 in
    sym (separator_is (chars c.args.text.now) (chars c.args.word.now) c.in-Some.last c.in-Some-next.first (sym l ∙ c.in-Some.is) (f ∙ c.in-Some-next.is)
    ∙ line_at_hash c.in-Some.last c.in-Some-next.first c.if-last-eq10.false c.if-first-eq35.true)

pub returns-then-may_join : goal.returns-then-may_join
returns-then-may_join c =
    let l = last_of_text c.args.text.now c.chars.result c.last.result c.utf8.text c.chars.ensures.rest c.last.ensures.ran in
    let f = ap (λ w. slice_get (chars w) 0) (sym c.chars-2.ensures.rest) ∙ sym c.next.ensures.steps.2 in
    sym (separator_is (chars c.args.text.now) (chars c.args.word.now) c.in-Some.last c.in-Some-next.first (sym l ∙ c.in-Some.is) (f ∙ c.in-Some-next.is)
    ∙ space_if_joined c.in-Some.last c.in-Some-next.first c.may_join.result c.if-last-eq10.false c.if-first-eq35.false c.may_join.ensures
    ∙ ap (λ joined. if joined then 32 ∷ [] else []) c.if-may_join.true)

pub returns-else-may_join : goal.returns-else-may_join
returns-else-may_join c =
    let l = last_of_text c.args.text.now c.chars.result c.last.result c.utf8.text c.chars.ensures.rest c.last.ensures.ran in
    let f = ap (λ w. slice_get (chars w) 0) (sym c.chars-2.ensures.rest) ∙ sym c.next.ensures.steps.2 in
    sym (separator_is (chars c.args.text.now) (chars c.args.word.now) c.in-Some.last c.in-Some-next.first (sym l ∙ c.in-Some.is) (f ∙ c.in-Some-next.is)
    ∙ space_if_joined c.in-Some.last c.in-Some-next.first c.may_join.result c.if-last-eq10.false c.if-first-eq35.false c.may_join.ensures
    ∙ ap (λ joined. if joined then 32 ∷ [] else []) c.if-may_join.false)
