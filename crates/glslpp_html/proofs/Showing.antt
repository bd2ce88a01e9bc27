-- Pages that show texts, one after another.
use Rattle.std.proofs.Common.{◌≡◌, ◌∙◌, ◌<◌, ◌+◌, take, length, get_or, inl, inr, ℕ, List, [], ◌∷◌, ◌++◌, true, ◌&&◌, codes, refl, ap, sym, subst, append_assoc, append-nil}
use Rattle.std.specs.List.{flat_map, list_all}
use Rattle.std.specs.Str.{chars}
use Rattle.std.proofs.lemmas.Bool.Decides.{eqb_tells}
use Rattle.std.proofs.lemmas.Grind.{flat_map-append}
use Rattle.std.proofs.lemmas.List.{take_more}
use Rattle.std.proofs.lemmas.List.Concat.{flat_map-cons}
use Rattle.std.proofs.lemmas.List.Folds.{list_all-append}
use Rattle.glslpp_html.specs.Shown.{Attributes, none, more, IsTag, is_beginning, is_value_character, Shows, nothing, tag, less_than, ampersand, carriage_return, nul, other, escaped_character, value_character}
use Rattle.std.specs.Prelude.{Result, OnOk}
use Rattle.std.proofs.lemmas.Str.{chars-nil}
use Rattle.glslpp_html.proofs.Characters.{chars_same, on_ok}
use Rattle.glslpp_html.specs.Pages.{name_line}
use Rattle.glslpp_html.specs.Written.{ShowsMore, HasAttributes}

pub both_shown : (page next text rest : List ℕ) → Shows page text → Shows next rest → Shows (page ++ next) (text ++ rest)
both_shown page next text rest nothing h = h
both_shown page next text rest (tag inside after _ is shows) h =
    subst (λ p. Shows p (text ++ rest)) (sym (append_assoc (codes "<" ++ inside ++ codes ">") after next))
    (tag inside (after ++ next) (text ++ rest) is (both_shown after next text rest shows h))
both_shown page next text rest (less_than after shown shows) h = less_than (after ++ next) (shown ++ rest) (both_shown after next shown rest shows h)
both_shown page next text rest (ampersand after shown shows) h = ampersand (after ++ next) (shown ++ rest) (both_shown after next shown rest shows h)
both_shown page next text rest (carriage_return after shown shows) h = carriage_return (after ++ next) (shown ++ rest) (both_shown after next shown rest shows h)
both_shown page next text rest (nul after shown shows) h = nul (after ++ next) (shown ++ rest) (both_shown after next shown rest shows h)
both_shown page next text rest (other c after shown a b d e shows) h = other c (after ++ next) (shown ++ rest) a b d e (both_shown after next shown rest shows h)

pub escaped_itself : (c : ℕ) → (c ≡ 60 → ⊥) → (c ≡ 38 → ⊥) → (c ≡ 13 → ⊥) → (c ≡ 0 → ⊥) → escaped_character c ≡ c ∷ []
escaped_itself c a b d f = elim (eqb_tells c 60) [
  | inl h ↦ absurd (a h.1)
  | inr h ↦ elim (eqb_tells c 38) [
    | inl k ↦ absurd (b k.1)
    | inr k ↦ elim (eqb_tells c 13) [
      | inl m ↦ absurd (d m.1)
      | inr m ↦ elim (eqb_tells c 0) [ inl n ↦ absurd (f n.1) | inr n ↦ rw (h.0, k.0, m.0, n.0) refl ]
    ]
  ]
]

pub value_escaped : (c : ℕ) → (c ≡ 34 → ⊥) → (c ≡ 62 → ⊥) → value_character c ≡ escaped_character c
value_escaped c a b = elim (eqb_tells c 34) [
  | inl h ↦ absurd (a h.1)
  | inr h ↦ elim (eqb_tells c 62) [ inl k ↦ absurd (b k.1) | inr k ↦ rw (h.0, k.0) refl ]
]

-- a character that is escaped shows itself
pub escaped_shown : (c : ℕ) → Shows (escaped_character c) (c ∷ [])
escaped_shown c = elim (eqb_tells c 60) [
  | inl h ↦ rw h.1 (less_than [] [] nothing)
  | inr h ↦ elim (eqb_tells c 38) [
    | inl k ↦ rw k.1 (ampersand [] [] nothing)
    | inr k ↦ elim (eqb_tells c 13) [
      | inl m ↦ rw m.1 (carriage_return [] [] nothing)
      | inr m ↦ elim (eqb_tells c 0) [
        | inl n ↦ rw n.1 (nul [] [] nothing)
        | inr n ↦ rw (h.0, k.0, m.0, n.0) (other c [] [] h.1 k.1 m.1 n.1 nothing)
      ]
    ]
  ]
]

-- so do all
pub text_shown : (cs : List ℕ) → Shows (flat_map escaped_character cs) cs
text_shown [] = nothing
text_shown (c ∷ cs) = rw (flat_map-cons escaped_character c cs) (both_shown (escaped_character c) (flat_map escaped_character cs) (c ∷ []) cs (escaped_shown c) (text_shown cs))

-- what is written with a text more
pub shows_text : (old new text : List ℕ) → chars new ≡ chars old ++ flat_map escaped_character (chars text) → ShowsMore old new (chars text)
shows_text old new text e = (flat_map escaped_character (chars text), e, text_shown (chars text))

-- one more after another
pub shows_both : (old now new text rest : List ℕ) → ShowsMore old now text → ShowsMore now new rest → ShowsMore old new (text ++ rest)
shows_both old now new text rest h k =
    (h.0 ++ k.0, k.1 ∙ ap (λ t. t ++ k.0) h.1 ∙ append_assoc (chars old) h.0 k.0, both_shown h.0 k.0 text rest h.2 k.2)

pub shows_none : (old : List ℕ) → ShowsMore old old []
shows_none old = ([], sym (append-nil (chars old)), nothing)

-- a page from its start
pub both_shown_more : (old new text : List ℕ) (before : List ℕ) → Shows (chars old) before → ShowsMore old new text → Shows (chars new) (before ++ text)
both_shown_more old new text before shows h = subst (λ p. Shows p (before ++ text)) (sym h.1) (both_shown (chars old) h.0 before text shows h.2)

-- a tag
pub tag_more : (old new inside : List ℕ) → IsTag inside → chars new ≡ chars old ++ (codes "<" ++ inside ++ codes ">") → ShowsMore old new []
tag_more old new inside is e = (codes "<" ++ inside ++ codes ">", e, (let one : Shows (codes "<" ++ inside ++ codes ">" ++ []) [] = tag inside [] [] is nothing in rw append-nil at one))

-- attributes after attributes
pub both_attributes : (first second : List ℕ) → Attributes first → Attributes second → Attributes (first ++ second)
both_attributes first second none h = h
both_attributes first second (more beginning value rest is_one is_value others) h =
    subst Attributes (sym (append_assoc (beginning ++ value ++ codes "\"") rest second))
    (more beginning value (rest ++ second) is_one is_value (both_attributes rest second others h))

pub one_attribute : (beginning value : List ℕ) → is_beginning beginning ≡ true → list_all is_value_character value ≡ true
    → Attributes (beginning ++ value ++ codes "\"")
one_attribute beginning value is_one is_value =
    let one : Attributes (beginning ++ value ++ codes "\"" ++ []) = more beginning value [] is_one is_value none in rw append-nil at one

pub has_both : (old now new : List ℕ) → HasAttributes old now → HasAttributes now new → HasAttributes old new
has_both old now new h k =
    (h.0 ++ k.0, k.1 ∙ ap (λ t. t ++ k.0) h.1 ∙ append_assoc (chars old) h.0 k.0, both_attributes h.0 k.0 h.2 k.2)

pub has_none : (old : List ℕ) → HasAttributes old old
has_none old = ([], sym (append-nil (chars old)), none)

-- a character of a value
escaped_in_value : (c : ℕ) → (c ≡ 34 → ⊥) → (c ≡ 62 → ⊥) → list_all is_value_character (escaped_character c) ≡ true
escaped_in_value c not_mark not_end = elim (eqb_tells c 60) [
  | inl h ↦ rw h.1 refl
  | inr h ↦ elim (eqb_tells c 38) [
    | inl k ↦ rw k.1 refl
    | inr k ↦ elim (eqb_tells c 13) [
      | inl m ↦ rw m.1 refl
      | inr m ↦ elim (eqb_tells c 0) [
        | inl n ↦ rw n.1 refl
        | inr n ↦ elim (eqb_tells c 34) [
          | inl p ↦ absurd (not_mark p.1)
          | inr p ↦ elim (eqb_tells c 62) [ inl q ↦ absurd (not_end q.1) | inr q ↦ rw (h.0, k.0, m.0, n.0, p.0, q.0) refl ]
        ]
      ]
    ]
  ]
]

character_in_value : (c : ℕ) → list_all is_value_character (value_character c) ≡ true
character_in_value c = elim (eqb_tells c 34) [
  | inl h ↦ rw h.1 refl
  | inr h ↦ elim (eqb_tells c 62) [ inl k ↦ rw k.1 refl | inr k ↦ rw (h.0, k.0) (escaped_in_value c h.1 k.1) ]
]

pub value_in_value : (cs : List ℕ) → list_all is_value_character (flat_map value_character cs) ≡ true
value_in_value [] = refl
value_in_value (c ∷ cs) =
    rw flat_map-cons (list_all-append is_value_character (value_character c) (flat_map value_character cs)
    ∙ ap (λ b. b && list_all is_value_character (flat_map value_character cs)) (character_in_value c) ∙ value_in_value cs)

-- the parts of a tag, one after another
pub closed : (old first second new name : List ℕ) → first ≡ old ++ codes "</" → second ≡ first ++ name → new ≡ second ++ codes ">"
    → new ≡ old ++ (codes "<" ++ (codes "/" ++ name) ++ codes ">")
closed old first second new name f s n = n ∙ ap (λ t. t ++ codes ">") (s ∙ ap (λ t. t ++ name) f) ∙ simp append_assoc

pub opened : (old first second third new name attributes : List ℕ) → first ≡ old ++ codes "<" → second ≡ first ++ name → third ≡ second ++ attributes
    → new ≡ third ++ codes ">" → new ≡ old ++ (codes "<" ++ (name ++ attributes) ++ codes ">")
opened old first second third new name attributes f s t n =
    n ∙ ap (λ x. x ++ codes ">") (t ∙ ap (λ x. x ++ attributes) (s ∙ ap (λ x. x ++ name) f)) ∙ simp append_assoc

pub begun : (old first second new beginning value : List ℕ) → first ≡ old ++ beginning → second ≡ first ++ value → new ≡ second ++ codes "\""
    → new ≡ old ++ (beginning ++ value ++ codes "\"")
begun old first second new beginning value a b d = d ∙ ap (λ x. x ++ codes "\"") (b ∙ ap (λ x. x ++ value) a) ∙ simp append_assoc

-- a text between two tags
pub shows_between : {T E : Type 0} (r : Result T E) (p0 p1 p2 p3 text : List ℕ) → ShowsMore p0 p1 []
    → chars p2 ≡ chars p1 ++ flat_map escaped_character (chars text) → OnOk r (ShowsMore p2 p3 []) → OnOk r (ShowsMore p0 p3 (chars text))
shows_between r p0 p1 p2 p3 text a b = on_ok r _ _ (λ (d : ShowsMore p2 p3 []). subst (ShowsMore p0 p3) (append-nil (chars text))
    (shows_both p0 p2 p3 (chars text) [] (shows_both p0 p1 p2 [] (chars text) a (shows_text p1 p2 text b)) d))

-- a text, and then another if nothing failed
pub then_shown : {T E : Type 0} (r : Result T E) (p0 p1 p2 text rest : List ℕ) → ShowsMore p0 p1 text → OnOk r (ShowsMore p1 p2 rest)
    → OnOk r (ShowsMore p0 p2 (text ++ rest))
then_shown r p0 p1 p2 text rest a b = on_ok r _ _ (λ (d : ShowsMore p1 p2 rest). shows_both p0 p1 p2 text rest a d) b

-- a text, and then tags that show nothing
pub nothing_after : (p0 p1 p2 text : List ℕ) → ShowsMore p0 p1 text → ShowsMore p1 p2 [] → ShowsMore p0 p2 text
nothing_after p0 p1 p2 text a b = subst (ShowsMore p0 p2) (append-nil text) (shows_both p0 p1 p2 text [] a b)

pub then_nothing : {T E : Type 0} (r : Result T E) (p0 p1 p2 text : List ℕ) → ShowsMore p0 p1 text → OnOk r (ShowsMore p1 p2 [])
    → OnOk r (ShowsMore p0 p2 text)
then_nothing r p0 p1 p2 text a b = on_ok r _ _ (λ (d : ShowsMore p1 p2 []). nothing_after p0 p1 p2 text a d) b

-- a name, a line end and a tag
pub named_then : {T E : Type 0} (r : Result T E) (p0 p1 p2 p3 name : List ℕ) → ShowsMore p0 p1 (chars name)
    → chars p2 ≡ chars p1 ++ flat_map escaped_character (chars (codes "\n")) → OnOk r (ShowsMore p2 p3 [])
    → OnOk r (ShowsMore p0 p3 (name_line name))
named_then r p0 p1 p2 p3 name a b d =
    then_nothing r p0 p2 p3 (name_line name)
    (subst (λ end. ShowsMore p0 p2 (chars name ++ end)) (chars_same (codes "\n") refl)
    (shows_both p0 p1 p2 (chars name) (chars (codes "\n")) a (shows_text p1 p2 (codes "\n") b))) d

-- a page in an overview: its name, `: `, what is said of it, and a line end
pub entry_shown : {T E : Type 0} (r : Result T E) (p0 p1 p2 p3 p4 p5 p6 name note : List ℕ) → ShowsMore p0 p1 [] → ShowsMore p1 p2 (chars name)
    → chars p3 ≡ chars p2 ++ flat_map escaped_character (chars (codes ": ")) → chars p4 ≡ chars p3 ++ flat_map escaped_character (chars note)
    → chars p5 ≡ chars p4 ++ flat_map escaped_character (chars (codes "\n")) → OnOk r (ShowsMore p5 p6 [])
    → OnOk r (ShowsMore p0 p6 (chars name ++ codes ": " ++ chars note ++ codes "\n"))
entry_shown r p0 p1 p2 p3 p4 p5 p6 name note a b d e f =
    let to_name = shows_both p0 p1 p2 [] (chars name) a b in
    let to_colon = shows_both p0 p2 p3 ([] ++ chars name) (chars (codes ": ")) to_name (shows_text p2 p3 (codes ": ") d) in
    let to_note = shows_both p0 p3 p4 (([] ++ chars name) ++ chars (codes ": ")) (chars note) to_colon (shows_text p3 p4 note e) in
    let to_end = shows_both p0 p4 p5 ((([] ++ chars name) ++ chars (codes ": ")) ++ chars note) (chars (codes "\n")) to_note
    (shows_text p4 p5 (codes "\n") f) in
    on_ok r _ _ (λ (h : ShowsMore p5 p6 []). subst (ShowsMore p0 p6)
    (simp (append-nil, append_assoc, chars_same (codes ": ") refl, chars_same (codes "\n") refl))
    (shows_both p0 p5 p6 (((([] ++ chars name) ++ chars (codes ": ")) ++ chars note) ++ chars (codes "\n")) [] to_end h))

-- what was written to an empty text
pub from_nothing : (new empty written : List ℕ) → empty ≡ [] → chars new ≡ chars empty ++ written → chars new ≡ written
from_nothing new empty written is_empty e = e ∙ ap (λ t. chars t ++ written) is_empty ∙ ap (λ t. t ++ written) chars-nil

-- a body, from its start
pub body_begun : (body command empty : List ℕ) → empty ≡ [] → ShowsMore empty body (chars command) → Shows (chars body) (chars command ++ [])
body_begun body command empty is_empty h =
    subst (Shows (chars body)) (sym (append-nil (chars command)))
    (subst (λ p. Shows p (chars command)) (sym (from_nothing body empty h.0 is_empty h.1)) h.2)

-- one more element's text
pub one_element_more : {X : Type 0} (f : X → List ℕ) (first : List ℕ) (xs : List X) (i : ℕ) (x : X) (old new : List ℕ) → i < length xs → x ≡ get_or xs i x
    → Shows (chars old) (first ++ flat_map f (take i xs)) → ShowsMore old new (f x) → Shows (chars new) (first ++ flat_map f (take (i + 1) xs))
one_element_more f first xs i x old new below is shown h =
    let parts : flat_map f (take (i + 1) xs) ≡ flat_map f (take i xs) ++ f x =
    ap (flat_map f) (take_more xs i x below ∙ ap (λ y. take i xs ++ y ∷ []) (sym is)) ∙ flat_map-append f (take i xs) (x ∷ [])
    ∙ ap (λ t. flat_map f (take i xs) ++ t) (append-nil (f x)) in
    subst (Shows (chars new)) (append_assoc first (flat_map f (take i xs)) (f x) ∙ ap (λ t. first ++ t) (sym parts))
    (both_shown_more old new (f x) (first ++ flat_map f (take i xs)) shown h)

pub four_parts : (a b c d : List ℕ) → a ++ (b ++ (c ++ d)) ≡ a ++ b ++ c ++ d
four_parts a b c d = simp append_assoc
