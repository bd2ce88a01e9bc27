-- A shader once for each content of the macro `QUALITY`.
use Rattle.std.specs.Prelude.{◌≡◌, ℕ, List, [], ◌∷◌, ◌++◌, codes, Ok}
use Rattle.pp_lexer.specs.declared.token.Token.{Token}
use Rattle.pp_model.specs.Run.{items_of, content_tokens}
use Rattle.pp_model.specs.declared.outcome.Outcome.TheVariants as outcome
use Rattle.pp_rs.specs.Comes.{IsRunFrom, start, with_added}
use Rattle.pp_rs.specs.Output.{output}

-- The tokens of the source up to its end, if `QUALITY` is a macro with the tokens of the content as its body, as lines.
pub record IsVariant (source content text : List ℕ) : Type 0 where
  pub body : List Token
  pub is_body : content_tokens (items_of content) ≡ Ok body
  pub tokens : List Token
  pub gives_all : IsRunFrom (with_added (codes "QUALITY") body (start (items_of source))) tokens outcome.End
  pub lines : text ≡ output tokens

-- a line that names the content, and the variant
abbrev pub titled_variant : List ℕ → List ℕ → List ℕ
titled_variant content variant = codes "// QUALITY " ++ content ++ codes "\n" ++ variant

-- the variants of the contents, one after another, each with its title
pub data AreVariants (source : List ℕ) : List (List ℕ) → List ℕ → Type 0 where
  none : AreVariants source [] []
  one_more : (contents : List (List ℕ)) (content variant text : List ℕ)
      → AreVariants source contents text
      → IsVariant source content variant
      → AreVariants source (contents ++ content ∷ []) (text ++ titled_variant content variant)
