-- A step of a frame lowers the number of its steps and keeps its name and the numbers; and how many steps a frame has when it opens.
use Rattle.std.proofs.Common.{◌≡◌, ℕ, ◌+◌, ◌*◌, ◌<◌, ◌≤◌, Bool, true, false, List, [], ◌∷◌, length, refl, ap, arith, Option, Some, None, IfSome}
use Rattle.pp_lexer.specs.declared.token.Token.{Token}
use Rattle.pp_model.specs.declared.read.Read.{Read}
use Rattle.pp_model.specs.Names.{Name, is_same_name}
use Rattle.pp_model.specs.Definitions.{Definition}
use Rattle.pp_model.specs.SpliceList.{parameter_of}
use Rattle.pp_macros.specs.inner.Defined.{Defined, meaning_of, more_tokens, body_tokens}
use Rattle.pp_macros.specs.inner.Frames.{Frame, Advance, advance, body_token, argument_at, arguments_left}
use Rattle.pp_macros.specs.inner.Bodies.{has_parameter}
use Rattle.pp_macros.specs.inner.Work.{token_steps, body_steps, steps_left}
use Rattle.pp_macros.proofs.open_frames.RoleLemmas.{steps_without}

-- a frame after a step: fewer steps are left, and its name and the numbers stay
pub record Advances (f : Frame) (a : Advance) : Type 0 where
  pub lower : steps_left a.after < steps_left f
  pub name : a.after.name ≡ f.name
  pub number : a.after.number ≡ f.number
  pub noted : a.after.noted ≡ f.noted

-- the end of a body is a step too
pub body_steps_some : (parameters : List Name) (arguments : List (List Read)) (body : List Token) → 0 < body_steps parameters arguments body
body_steps_some parameters arguments [] = omega arith
body_steps_some parameters arguments (token ∷ rest) = omega (arith, body_steps_some parameters arguments rest)

-- a frame has a step left
pub some_steps_left : (f : Frame) → 0 < steps_left f
some_steps_left f = omega (arith, body_steps_some f.parameters f.arguments f.body)

-- the frame with this rest of its body, and of the argument that is being read
abbrev left : Frame → List Token → Option (List Read) → Frame
left f body reading = record f { body = body; reading = reading }

token_lowers : (f : Frame) (token : Token) (rest : List Token) (p : Option ℕ) → parameter_of f.parameters token.value ≡ p
    → Advances (left f (token ∷ rest) None) (body_token (left f (token ∷ rest) None) token rest p)
token_lowers f token rest None e =
    let s : token_steps f.arguments (parameter_of f.parameters token.value) ≡ 1 = ap (token_steps f.arguments) e in
    record { lower = omega arith; name = refl; number = refl; noted = refl }
token_lowers f token rest (Some k) e = go (has_parameter f.parameters rest k) refl
  where
    s : token_steps f.arguments (parameter_of f.parameters token.value) ≡ length (argument_at f.arguments k) + 2
    s = ap (token_steps f.arguments) e

    go : (again : Bool) → has_parameter f.parameters rest k ≡ again
        → Advances (left f (token ∷ rest) None)
        (record {
          gives = None;
          after = record f { body = rest; arguments = arguments_left f.arguments k again; reading = Some (argument_at f.arguments k) };
        })
    go true is = record { lower = omega (arith, s); name = refl; number = refl; noted = refl }
    go false is = record { lower = omega (arith, s, steps_without f.parameters f.arguments rest k is); name = refl; number = refl; noted = refl }

frame_lowers : (f : Frame) (body : List Token) (reading : Option (List Read)) → IfSome (advance (left f body reading)) (Advances (left f body reading))
frame_lowers f body (Some (read ∷ rest)) = record { lower = omega arith; name = refl; number = refl; noted = refl }
frame_lowers f body (Some []) = record { lower = omega arith; name = refl; number = refl; noted = refl }
frame_lowers f [] None = tt
frame_lowers f (token ∷ rest) None = token_lowers f token rest (parameter_of f.parameters token.value) refl

-- each step of a frame is so
pub advance_lowers : (f : Frame) → IfSome (advance f) (Advances f)
advance_lowers f = frame_lowers f f.body f.reading

-- a token of a body takes two steps at most where no argument is given
token_steps_least : (p : Option ℕ) → token_steps [] p ≤ 2
token_steps_least None = omega arith
token_steps_least (Some k) = omega arith

body_steps_least : (parameters : List Name) (body : List Token) → body_steps parameters [] body ≤ 2 * length body + 1
body_steps_least parameters [] = omega arith
body_steps_least parameters (token ∷ rest) = omega (arith, token_steps_least (parameter_of parameters token.value), body_steps_least parameters rest)

-- a body is among those that are defined
pub body_within : (definitions : List Defined) (name : Name) (definition : Definition) → meaning_of definitions name ≡ Some definition
    → length definition.body ≤ body_tokens definitions
body_within [] name definition e = absurd (let bad : None ≡ Some definition = e in cc)
body_within (d ∷ ds) name definition e = go (is_same_name name d.name) refl (body_within ds name definition)
  where
    go : (b : Bool) → is_same_name name d.name ≡ b → (meaning_of ds name ≡ Some definition → length definition.body ≤ body_tokens ds)
        → length definition.body ≤ body_tokens (d ∷ ds)
    go true same below =
        let here : d.definition ≡ Some definition = rw same at e in
        let long : more_tokens d.definition ≡ length definition.body = ap more_tokens here in
        omega arith
    go false other below =
        let there : meaning_of ds name ≡ Some definition = rw other at e in
        omega (arith, below there)
