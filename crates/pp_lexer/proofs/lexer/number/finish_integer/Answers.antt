use Rattle.std.proofs.Common.{◌≡◌, List, ℕ, Bool, not, drop, Option, None, Err, sym, ◌∙◌, ap, rules, arith}
use Rattle.std.specs.Option.{option_map_or}
use Rattle.pp_lexer.specs.declared.lexer.number.Suffix.{Suffix}
use Rattle.pp_lexer.specs.declared.rules.Rules.{Rules}
use Rattle.pp_lexer.specs.declared.token.PreprocessorError.{PreprocessorError}
use Rattle.pp_lexer.specs.NumberValue.{is_s, is_u, width_refusal, integer_suffix, integer_value, integer_outcome}
use Rattle.pp_lexer.specs.Outcome.{Answer}
use Rattle.pp_lexer.specs.Reading.{Reading, letters, advanced}
use Rattle.pp_lexer.specs.Surroundings.{begins_with}
use Rattle.pp_lexer.proofs.characters.AdvancedLemmas.{letters-advanced}
use Rattle.pp_lexer.proofs.lexer.number.finish_integer.Goals as goal

-- the value, if no letter after the suffix is refused
unrefused : (rules : Rules) (w : List ℕ) (r q : Reading) (s : Suffix) (unsigned : Bool) (fault : Option PreprocessorError) (value : Answer)
    → unsigned ≡ begins_with is_u (letters r.rest) → s ≡ integer_suffix rules (letters r.rest) → q ≡ advanced s.taken r
    → fault ≡ width_refusal rules is_s (letters q.rest) → fault ≡ None → value ≡ integer_value (not unsigned) s.width w
    → value ≡ (integer_outcome rules w (letters r.rest)).value
unrefused rules w r q s unsigned fault value u e m f n v =
    let cs = letters r.rest in
    let after : letters q.rest ≡ drop (integer_suffix rules cs).taken cs =
    ap (λ x. letters x.rest) m ∙ letters-advanced s.taken r.rest r.last ∙ ap (λ x. drop x.taken cs) e in
    let none : width_refusal rules is_s (drop (integer_suffix rules cs).taken cs) ≡ None = ap (width_refusal rules is_s) (sym after) ∙ sym f ∙ n in
    v ∙ (λ i. integer_value (not (u i)) (e i).width w)
    ∙ sym (ap (λ o. option_map_or Err o (integer_value (not (begins_with is_u cs)) (integer_suffix rules cs).width w)) none)

pub returns-in-Some-clause-value : goal.returns-in-Some-clause-value
returns-in-Some-clause-value c = grind (arith, letters-advanced)

pub returns-clause-value : goal.returns-clause-value
returns-clause-value c =
    let same = c.is_either_next-unsigned.ensures.same in
    let suffix = c.integer_suffix-suffix in
    unrefused c.args.rules c.args.word.now c.args.inner.now c.skip.new.inner suffix.result c.is_either_next-unsigned.result c.find_width_refusal.result
    c.read_integer.result
    c.is_either_next-unsigned.ensures.test (suffix.ensures.value ∙ ap (λ r. integer_suffix c.args.rules (letters r.rest)) same)
    (c.skip.ensures ∙ ap (advanced suffix.result.taken) (suffix.ensures.same ∙ same)) c.find_width_refusal.ensures.value c.in_default.is
    (c.read_integer.ensures ∙ ap (λ width. integer_value (not c.is_either_next-unsigned.result) width c.args.word.now) (search rules))
