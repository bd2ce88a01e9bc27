-- What a failure says.
use Rattle.std.specs.Prelude.{◌≡◌, ℕ, List, ◌++◌, Option, IfSome, codes, string_bytes, ⊤}
use Rattle.glslpp_parts.specs.declared.failure.Failure.{Failure}
use Rattle.glslpp_parts.specs.declared.failure.Failure.TheVariants.{Told, OutOfMemory}

-- a sentence `subject: cause`, or that memory ran out; a cause is `None` if its type doesn't state its text
abbrev pub Says : List ℕ → Option (List ℕ) → Failure → Type 0
Says subject cause (Told text) = IfSome cause (λ words. string_bytes text ≡ subject ++ codes ": " ++ words)
Says subject cause OutOfMemory = ⊤
