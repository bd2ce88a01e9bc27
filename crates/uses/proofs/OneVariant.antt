-- Variants that were made of the tokens that were read.
use Rattle.std.proofs.Common.{◌≡◌, ◌∙◌, ◌+◌, ◌<◌, ℕ, List, [], ◌∷◌, ◌++◌, codes, ap, sym, subst, map, take, length, get_or, append_assoc}
use Rattle.std.specs.Prelude.{Ok, Result}
use Rattle.std.specs.Str.{chars}
use Rattle.pp_lexer.specs.Rules.{pp_rs}
use Rattle.pp_lexer.specs.declared.token.Token.{Token}
use Rattle.pp_model.specs.Run.{items_by, items_of, content_tokens}
use Rattle.pp_model.specs.declared.outcome.Outcome.TheVariants.{End}
use Rattle.pp_rs.specs.Adding.{IsAdded, refused, faulty, added, IsWithAdded}
use Rattle.pp_rs.specs.Comes.{State, IsRunFrom, start, with_added}
use Rattle.pp_rs.specs.Kept.{Preprocessing, Stands, rules_of}
use Rattle.pp_rs.specs.Output.{output}
use Rattle.pp_rs.specs.Trying.{IsTried, too_long, short, tried}
use Rattle.pp_rs.specs.declared.pp.trying.AddError.{AddError}
use Rattle.std.specs.Borrow.{Bor}
use Rattle.std.proofs.lemmas.List.{map_more}
use Rattle.uses.specs.Variants.{AreVariants, IsVariant, one_more, titled_variant}
use Rattle.uses.proofs.Item.{Fault}

-- the tokens of a content that was added, and what the preprocessor is then
pub record HasBody (name content : List ℕ) (old new : Preprocessing) : Type 0 where
  pub body : List Token
  pub is_body : content_tokens (items_of content) ≡ Ok body
  pub with_body : IsWithAdded (chars name) body old new

was_added : (old new : Preprocessing) (name content : List ℕ) (answer : Result (Unit {0}) Fault) → IsAdded old name content answer new → rules_of old ≡ pp_rs
    → ◌≡◌ {A = Result (Unit {0}) AddError} (Ok tt) (tried answer) → HasBody name content old new
was_added old new name content answer (refused e same) usual is = cc
was_added old new name content answer (faulty fault has e same) usual is = cc
was_added old new name content answer (added body has e h) usual is =
    record { body = body; is_body = ap (λ rules. content_tokens (items_by rules content)) (sym usual) ∙ has; with_body = h }

pub defined : (old new : Preprocessing) (name content : List ℕ) → IsTried old name content (Ok tt) new → rules_of old ≡ pp_rs → HasBody name content old new
defined old new name content (too_long long e same) usual = cc
defined old new name content (short answer fits h e) usual = was_added old new name content answer h usual e

-- what comes after the definition is a variant
pub variant_of : (old new : Preprocessing) (name content source text : List ℕ) → chars name ≡ codes "QUALITY" → HasBody name content old new
    → ((state : State) → Stands new state → (tokens : List Token) × IsRunFrom state tokens End × (text ≡ output tokens))
    → Stands old (start (items_of source)) → IsVariant source content text
variant_of old new name content source text e d rest stands =
    let r = rest (with_added (chars name) d.body (start (items_of source))) (d.with_body.stands _ stands) in
    record {
      body = d.body;
      is_body = d.is_body;
      tokens = r.0;
      gives_all = subst (λ n. IsRunFrom (with_added n d.body (start (items_of source))) r.0 End) e r.1;
      lines = r.2;
    }

-- one content more
pub variants_more : (source : List ℕ) (contents : List (Bor (List ℕ))) (i : ℕ) (d : Bor (List ℕ)) (before after variant : List ℕ) → i < length contents
    → AreVariants source (map (λ content. content.now) (take i contents)) before → IsVariant source (get_or contents i d).now variant
    → after ≡ before ++ (codes "// QUALITY " ++ ((get_or contents i d).now ++ (10 ∷ variant)))
    → AreVariants source (map (λ content. content.now) (take (i + 1) contents)) after
variants_more source contents i d before after variant within are is e =
    let content = (get_or contents i d).now in
    let last : codes "// QUALITY " ++ (content ++ (10 ∷ variant)) ≡ titled_variant content variant = ap (λ t. codes "// QUALITY " ++ t) (sym (append_assoc content (10 ∷ []) variant)) in
    rw (map_more (λ (c : Bor (List ℕ)). c.now) contents i d within, e, last) (one_more _ content variant before are is)
