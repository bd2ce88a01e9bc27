use Rattle.std.proofs.Common.{◌≡◌, ◌∙◌, ◌++◌, ◌∷◌, [], ℕ, List, Option, Some, None, sym, append_assoc, string_bytes}
use Rattle.std.specs.Prelude.{IfSome}
use Rattle.std.specs.Fmt.{option_append}
use Rattle.glslpp_parts.proofs.failure.failure_of.Goals as goal

-- a text that is put together of a subject, a colon and a cause, if the cause is known
told : (cause : Option (List ℕ)) (subject text : List ℕ)
    → IfSome (option_append (Some subject) (option_append (Some (58 ∷ 32 ∷ [])) cause)) (λ bytes. text ≡ bytes)
    → IfSome cause (λ words. text ≡ subject ++ 58 ∷ 32 ∷ [] ++ words)
told None subject text e = tt
told (Some words) subject text e = e ∙ sym (append_assoc subject (58 ∷ 32 ∷ []) words)

pub returns-in-Ok : goal.returns-in-Ok
returns-in-Ok g c = told (g.C.Display.output c.args.cause) c.args.subject.now (string_bytes c.in-Ok.text) c.in-Ok.ensures.ok
