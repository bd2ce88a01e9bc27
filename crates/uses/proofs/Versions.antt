-- Tokens that were read and have no version number, up to the first one that has one.
use Rattle.std.proofs.Common.{◌≡◌, ◌∙◌, ℕ, true, false, List, [], ◌∷◌, ◌++◌, ◌⊎◌, inl, inr, refl, ap, sym, Option, None, Some}
use Rattle.std.specs.Prelude.{Ok, Err, is_some}
use Rattle.std.specs.Option.{option_or}
use Rattle.pp_lexer.specs.PlacedErrors.{placed}
use Rattle.pp_lexer.specs.PreprocessorError.{out_of_memory}
use Rattle.pp_lexer.specs.Rules.{pp_rs}
use Rattle.pp_lexer.specs.declared.token.Token.{Token}
use Rattle.pp_model.specs.Run.{items_of}
use Rattle.pp_rs.specs.Comes.{start}
use Rattle.pp_rs.specs.Kept.{Preprocessing, Stands, rules_of}
use Rattle.pp_rs.specs.Preprocessing.{IsNextItem}
use Rattle.uses.specs.Versions.{AsksFor, number, none, first_version_number, version_number}
use Rattle.uses.specs.Sources.{FailsAfter}
use Rattle.uses.proofs.Item.{Fault}
use Rattle.uses.proofs.Reading.{HaveRead, token_read, end_read, error_read}

pub record NoNumberRead (old now : Preprocessing) : Type 0 where
  pub tokens : List Token
  pub read : HaveRead old now tokens
  pub none_yet : first_version_number tokens ≡ None

or_none : (a b : Option ℕ) → option_or a b ≡ None → (a ≡ None) × (b ≡ None)
or_none None b e = (refl, e)
or_none (Some n) b e = cc

number_after : (tokens : List Token) (token : Token) → first_version_number tokens ≡ None → first_version_number (tokens ++ token ∷ []) ≡ version_number token.value
number_after [] token e = elim (version_number token.value) as (λ n. option_or n None ≡ n) [ None ↦ refl | Some n ↦ refl ]
number_after (t ∷ ts) token e =
    let h = or_none (version_number t.value) (first_version_number ts) e in
    rw h.0 (number_after ts token h.1)

module _ (old now new : Preprocessing) (h : NoNumberRead old now) where
  pub number_less : (token : Token) (asked : Option ℕ) → IsNextItem now (Some (Ok token)) new → asked ≡ version_number token.value
      → is_some asked ≡ false → NoNumberRead old new
  number_less token (Some n) next e absent = cc
  number_less token None next e absent = record {
    tokens = h.tokens ++ token ∷ [];
    read = token_read old now new h.tokens h.read token next;
    none_yet = number_after h.tokens token h.none_yet ∙ sym e;
  }

  pub number_read : (token : Token) (asked : Option ℕ) → IsNextItem now (Some (Ok token)) new → asked ≡ version_number token.value
      → is_some asked ≡ true → (source : List ℕ) → Stands old (start (items_of source)) → AsksFor source asked
  number_read token None next e there source stands = cc
  number_read token (Some n) next e there source stands =
      let r = (token_read old now new h.tokens h.read token next).came (start (items_of source)) stands in
      number (h.tokens ++ token ∷ []) n (r.0, r.1) (number_after h.tokens token h.none_yet ∙ sym e)

  -- an error came
  pub error_before_number : (fault : Fault) → IsNextItem now (Some (Err fault)) new → rules_of old ≡ pp_rs
      → (placed fault ≡ placed out_of_memory) ⊎ ((source : List ℕ) → Stands old (start (items_of source))
      → (tokens : List Token) × FailsAfter source tokens (placed fault) × (first_version_number tokens ≡ None))
  error_before_number fault next usual = elim (error_read old now new h.tokens h.read fault next usual) [
    | inl same ↦ inl (ap placed same)
    | inr came ↦ inr (λ source stands. (h.tokens, came (start (items_of source)) stands, h.none_yet))
  ]

  pub no_number_read : IsNextItem now None new → (source : List ℕ) → Stands old (start (items_of source)) → AsksFor source None
  no_number_read next source stands = none h.tokens (end_read old now new h.tokens h.read next _ stands) h.none_yet
