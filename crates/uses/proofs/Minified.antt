-- Items that were read, and are at the end of a text.
use Rattle.std.proofs.Common.{◌≡◌, ◌∙◌, ◌⊎◌, inl, inr, ℕ, Bool, true, false, if◌then◌else◌, ◌==◌, List, [], ◌∷◌, ◌++◌, refl, ap, sym, subst, Option, None, Some}
use Rattle.std.specs.Prelude.{Ok, Err, slice_get}
use Rattle.std.specs.List.{last_or}
use Rattle.std.specs.Str.{chars, IsUtf8, encode_utf8_all}
use Rattle.std.proofs.lemmas.Bool.Decides.{eqb_tells}
use Rattle.std.proofs.lemmas.Str.{chars-append, chars-nil, IsUtf8-append}
use Rattle.pp_lexer.specs.ItemText.{item_text}
use Rattle.pp_lexer.specs.PlacedErrors.{placed}
use Rattle.pp_lexer.specs.PreprocessorError.{out_of_memory}
use Rattle.pp_lexer.specs.Rules.{pp_rs}
use Rattle.pp_lexer.specs.TokenValue.{is_ordinary}
use Rattle.pp_lexer.specs.declared.token.TokenValue.{TokenValue}
use Rattle.uses.proofs.Texts.{chars_same, chars_of_encoded}
use Rattle.pp_lexer.specs.declared.token.Token.{Token}
use Rattle.pp_model.specs.Run.{items_of}
use Rattle.pp_rs.specs.Comes.{start}
use Rattle.pp_rs.specs.Kept.{Preprocessing, Stands, rules_of}
use Rattle.pp_rs.specs.Preprocessing.{IsNextItem}
use Rattle.uses.specs.Minified.{may_join, minified_text, separator, separator_at, separator_of, with_item, with_items}
use Rattle.uses.specs.Sources.{FailsAfter, GivesAll}
use Rattle.uses.proofs.Item.{Fault}
use Rattle.uses.proofs.Reading.{HaveRead, token_read, end_read, error_read}

-- what a separator is, by the two characters beside it
pub separator_is : (text word : List ℕ) (last first : ℕ) → last_or None text ≡ Some last → slice_get word 0 ≡ Some first → separator text word ≡ separator_at last first
separator_is text word last first p q = ap (λ l. separator_of l (slice_get word 0)) p ∙ ap (separator_of (Some last)) q

pub none_at_start : (last first : ℕ) → last ≡ 10 → separator_at last first ≡ []
none_at_start last first e = rw e refl

pub line_at_hash : (last first : ℕ) → (last ≡ 10 → ⊥) → first ≡ 35 → separator_at last first ≡ 10 ∷ []
line_at_hash last first other e = elim (eqb_tells last 10) [ inl h ↦ absurd (other h.1) | inr h ↦ rw (h.0, e) refl ]

pub space_if_joined : (last first : ℕ) (joined : Bool) → (last ≡ 10 → ⊥) → (first ≡ 35 → ⊥) → joined ≡ may_join last first
    → separator_at last first ≡ (if joined then 32 ∷ [] else [])
space_if_joined last first joined other another e = elim (eqb_tells last 10) [
  | inl h ↦ absurd (other h.1)
  | inr h ↦ elim (eqb_tells first 35) [
    | inl k ↦ absurd (another k.1)
    | inr k ↦ rw (h.0, k.0, e) refl
  ]
]

-- a separator is ASCII
chars_of_separator_at : (last first : ℕ) → chars (separator_at last first) ≡ separator_at last first
chars_of_separator_at last first =
    elim (last == 10) as (λ b. chars (if b then [] else if first == 35 then 10 ∷ [] else if may_join last first then 32 ∷ [] else [])
    ≡ (if b then [] else if first == 35 then 10 ∷ [] else if may_join last first then 32 ∷ [] else [])) [
      | true ↦ chars-nil
      | false ↦ elim (first == 35) as (λ b. chars (if b then 10 ∷ [] else if may_join last first then 32 ∷ [] else [])
          ≡ (if b then 10 ∷ [] else if may_join last first then 32 ∷ [] else [])) [
            | true ↦ chars_same (10 ∷ []) refl
            | false ↦ elim (may_join last first) as (λ b. chars (if b then 32 ∷ [] else []) ≡ (if b then 32 ∷ [] else [])) [
              | true ↦ chars_same (32 ∷ []) refl
              | false ↦ chars-nil
            ]
          ]
    ]

chars_of_separator : (last first : Option ℕ) → chars (separator_of last first) ≡ separator_of last first
chars_of_separator None first = chars-nil
chars_of_separator (Some last) None = chars-nil
chars_of_separator (Some last) (Some first) = chars_of_separator_at last first

-- a word behind its separator, by the bytes
pub word_pushed : (before word between one two : List ℕ) (value : TokenValue) → IsUtf8 before → IsUtf8 word → IsUtf8 between
    → word ≡ encode_utf8_all (item_text value) → between ≡ separator (chars before) (chars word) → one ≡ before ++ between → two ≡ one ++ word
    → chars two ≡ chars before ++ separator (chars before) (item_text value) ++ item_text value
word_pushed before word between one two value u v w is between_is e f =
    let letters : chars word ≡ item_text value = chars_of_encoded word (item_text value) v is in
    let same : chars between ≡ separator (chars before) (chars word) =
    ap chars between_is ∙ chars_of_separator (last_or None (chars before)) (slice_get (chars word) 0) in
    let front : chars one ≡ chars before ++ separator (chars before) (chars word) =
    ap chars e ∙ chars-append before between u ∙ ap (λ s. chars before ++ s) same in
    ap chars f ∙ chars-append one word (subst IsUtf8 (sym e) (IsUtf8-append before between u w)) ∙ ap (λ s. s ++ chars word) front
    ∙ ap (λ cs. chars before ++ separator (chars before) cs ++ cs) letters

pub item_pushed : (before all : List ℕ) (value : TokenValue) (ordinary : Bool) → ordinary ≡ is_ordinary value
    → all ≡ before ++ separator before (item_text value) ++ item_text value ++ (if ordinary then [] else 10 ∷ []) → all ≡ with_item before value
item_pushed before all value ordinary e h = h ∙ ap (λ b. before ++ separator before (item_text value) ++ item_text value ++ (if b then [] else 10 ∷ [])) e

pub record HavePushed (old now : Preprocessing) (text : List ℕ) : Type 0 where
  pub tokens : List Token
  pub read : HaveRead old now tokens
  pub pushed : text ≡ minified_text tokens

one_more : (text : List ℕ) (tokens : List Token) (token : Token) → with_items text (tokens ++ token ∷ []) ≡ with_item (with_items text tokens) token.value
one_more text [] token = refl
one_more text (t ∷ ts) token = one_more (with_item text t.value) ts token

pub token_pushed : (old now new : Preprocessing) (text : List ℕ) (h : HavePushed old now text) (token : Token) (more : List ℕ)
    → IsNextItem now (Some (Ok token)) new → more ≡ with_item text token.value → HavePushed old new more
token_pushed old now new text h token more next e = record {
  tokens = h.tokens ++ token ∷ [];
  read = token_read old now new h.tokens h.read token next;
  pushed = e ∙ ap (λ t. with_item t token.value) h.pushed ∙ sym (one_more [] h.tokens token);
}

-- an error came
pub error_after_pushed : (old now new : Preprocessing) (text : List ℕ) (h : HavePushed old now text) (fault : Fault) → IsNextItem now (Some (Err fault)) new
    → rules_of old ≡ pp_rs → (placed fault ≡ placed out_of_memory) ⊎ ((source : List ℕ) → Stands old (start (items_of source))
    → (tokens : List Token) × FailsAfter source tokens (placed fault))
error_after_pushed old now new text h fault next usual = elim (error_read old now new h.tokens h.read fault next usual) [
  | inl same ↦ inl (ap placed same)
  | inr came ↦ inr (λ source stands. (h.tokens, came (start (items_of source)) stands))
]

pub all_pushed : (old now new : Preprocessing) (text : List ℕ) (h : HavePushed old now text) → IsNextItem now None new
    → (source : List ℕ) → Stands old (start (items_of source)) → (tokens : List Token) × GivesAll source tokens × (text ≡ minified_text tokens)
all_pushed old now new text h next source stands = (h.tokens, end_read old now new h.tokens h.read next _ stands, h.pushed)
