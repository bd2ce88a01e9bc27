-- An argument whose parameter the rest of a body hasn't may be empty.
use Rattle.std.proofs.Common.{◌≡◌, ◌∙◌, ◌||◌, ℕ, ◌+◌, Bool, true, false, List, [], ◌∷◌, refl, sym, ap, arith, Option, Some, None}
use Rattle.std.specs.Prelude.{set}
use Rattle.std.proofs.lemmas.List.{get_or-set_other}
use Rattle.std.proofs.lemmas.Option.{unwrap_or-slice_get}
use Rattle.std.proofs.lemmas.Bool.Decides.{nat_tests}
use Rattle.pp_lexer.specs.declared.token.Token.{Token}
use Rattle.pp_model.specs.declared.read.Read.{Read}
use Rattle.pp_model.specs.Names.{Name}
use Rattle.pp_model.specs.SpliceList.{parameter_of, replacement, body_before}
use Rattle.pp_model.specs.declared.splice.Entry.{Entry}
use Rattle.pp_macros.specs.inner.Frames.{argument_at}
use Rattle.pp_macros.specs.inner.Bodies.{is_position, has_parameter}
use Rattle.pp_macros.specs.inner.Work.{token_steps, body_steps}

-- the other arguments are as they were
argument_elsewhere : (arguments : List (List Read)) (k j : ℕ) → is_position k (Some j) ≡ false → argument_at (set arguments k []) j ≡ argument_at arguments j
argument_elsewhere arguments k j other =
    unwrap_or-slice_get (set arguments k []) j [] ∙ get_or-set_other arguments k j [] [] (λ same. grind (arith, nat_tests))
    ∙ sym (unwrap_or-slice_get arguments j [])

-- neither of two
pub neither : (a b : Bool) → (a || b) ≡ false → (a ≡ false) × (b ≡ false)
neither true b e = cc
neither false b e = (refl, e)

replacement_without : (arguments : List (List Read)) (k text : ℕ) (token : Token) (p : Option ℕ) (entries : List Entry) → is_position k p ≡ false
    → replacement (set arguments k []) text token p entries ≡ replacement arguments text token p entries
replacement_without arguments k text token None entries other = refl
replacement_without arguments k text token (Some j) entries other =
    ap (λ (argument : List Read). replacement (argument ∷ []) text token (Some 0) entries) (argument_elsewhere arguments k j other)

-- what a body gives without the argument
pub before_without : (parameters : List Name) (arguments : List (List Read)) (text : ℕ) (body : List Token) (k : ℕ) (entries : List Entry)
    → has_parameter parameters body k ≡ false
    → body_before parameters (set arguments k []) text body entries ≡ body_before parameters arguments text body entries
before_without parameters arguments text [] k entries none = refl
before_without parameters arguments text (token ∷ rest) k entries none =
    let p = parameter_of parameters token.value in
    let both = neither (is_position k p) (has_parameter parameters rest k) none in
    ap (replacement (set arguments k []) text token p) (before_without parameters arguments text rest k entries both.1)
    ∙ replacement_without arguments k text token p (body_before parameters arguments text rest entries) both.0

token_without : (arguments : List (List Read)) (k : ℕ) (p : Option ℕ) → is_position k p ≡ false → token_steps (set arguments k []) p ≡ token_steps arguments p
token_without arguments k None other = refl
token_without arguments k (Some j) other =
    ap (λ (argument : List Read). token_steps (argument ∷ []) (Some 0)) (argument_elsewhere arguments k j other)

-- how many steps the body has without it
pub steps_without : (parameters : List Name) (arguments : List (List Read)) (body : List Token) (k : ℕ) → has_parameter parameters body k ≡ false
    → body_steps parameters (set arguments k []) body ≡ body_steps parameters arguments body
steps_without parameters arguments [] k none = refl
steps_without parameters arguments (token ∷ rest) k none =
    let p = parameter_of parameters token.value in
    let both = neither (is_position k p) (has_parameter parameters rest k) none in
    ap (λ (n : ℕ). n + body_steps parameters (set arguments k []) rest) (token_without arguments k p both.0)
    ∙ ap (λ (n : ℕ). token_steps arguments p + n) (steps_without parameters arguments rest k both.1)
