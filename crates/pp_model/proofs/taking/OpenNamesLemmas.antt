-- The open names of a list, of what is left of it, and of one into which a macro is spliced; and what opens.
use Rattle.std.proofs.Common.{◌≡◌, ◌∙◌, ℕ, Bool, true, false, ◌||◌, List, [], ◌∷◌, ◌++◌, refl, sym, ap, Option, Some, None}
use Rattle.std.specs.Prelude.{unwrap_or, slice_get}
use Rattle.std.proofs.lemmas.List.{append_assoc}
use Rattle.pp_lexer.specs.declared.token.Token.{Token}
use Rattle.pp_model.specs.declared.read.Read.{Read}
use Rattle.pp_lexer.specs.declared.token.TokenValue.{TokenValue}
use Rattle.pp_lexer.specs.declared.token.TokenValue.TheVariants.{Ident}
use Rattle.pp_model.specs.Names.{Name, is_same_name, is_in}
use Rattle.pp_model.specs.Definitions.{Definition}
use Rattle.pp_model.specs.SpliceList.{after_marks, open_names, parameter_of, replacement, body_before, macro_before}
use Rattle.pp_model.specs.inner.SpliceList.{followed_by}
use Rattle.pp_model.specs.Painting.{is_one_of, painted_among, taken_among}
use Rattle.pp_model.specs.Taking.{Takes}
use Rattle.pp_model.specs.Reading.{Reading, Expander, masked_names, Opening, opening_of, opening}
use Rattle.pp_model.specs.inner.Reading.{opening_by}
use Rattle.pp_model.specs.ApartMarks.{AreApart, HasApartMarks, IsRest}
use Rattle.pp_model.specs.declared.read.Taken.{Taken}
use Rattle.pp_model.specs.declared.read.Taken.TheVariants as taken
use Rattle.std.proofs.lemmas.List.Folds.{list_any-append}
use Rattle.pp_model.specs.declared.splice.Entry.{Entry}
use Rattle.pp_model.specs.declared.splice.Entry.TheVariants.{Plain, End}
use Rattle.pp_model.specs.declared.splice.CallPlace.{CallPlace}

-- what is left of a rest is left
pub rest_of_rest : (a b c : List Entry) → IsRest a b → IsRest b c → IsRest a c
rest_of_rest a b c (front, p) (more, q) = (front ++ more, p ∙ (rw q (sym (append_assoc front more c))))

-- after the marks at its front stands what is left of a list
pub after_marks_is_rest : (entries : List Entry) → IsRest entries (after_marks entries)
after_marks_is_rest [] = ([], refl)
after_marks_is_rest (End mark ∷ entries) =
    let rest = after_marks_is_rest entries in
    (End mark ∷ rest.0, ap (λ es. End mark ∷ es) rest.1)
after_marks_is_rest (Plain token ∷ entries) = ([], refl)

neither : (a b : Bool) → (a || b) ≡ false → (a ≡ false) × (b ≡ false)
neither true b h = cc
neither false b h = (refl, h)

pub not_in_tail : (name other : Name) (names : List Name) → is_in name (other ∷ names) ≡ false → is_in name names ≡ false
not_in_tail name other names h = (neither (is_same_name name other) (is_in name names) h).1

not_in_both : (name : Name) (names others : List Name) → is_in name (names ++ others) ≡ false → (is_in name names ≡ false) × (is_in name others ≡ false)
not_in_both name names others h = neither (is_in name names) (is_in name others) (sym (list_any-append (is_same_name name) names others) ∙ h)

pub not_in_later : (name : Name) (names others : List Name) → is_in name (names ++ others) ≡ false → is_in name others ≡ false
not_in_later name names others h = (not_in_both name names others h).1

-- names that are apart are so without the first ones
pub apart_later : (names others : List Name) → AreApart (names ++ others) → AreApart others
apart_later [] others h = h
apart_later (name ∷ names) others h = apart_later names others h.1

open_names-append : (front rest : List Entry) → open_names (front ++ rest) ≡ open_names front ++ open_names rest
open_names-append [] rest = refl
open_names-append (Plain token ∷ front) rest = open_names-append front rest
open_names-append (End mark ∷ front) rest = ap (λ names. mark.name ∷ names) (open_names-append front rest)

-- what is open in a list or around it is open at its front, in what is left of it, or around it
pub open_around : (old new : List Entry) (rest : IsRest old new) (hidden : List Name)
    → open_names old ++ hidden ≡ open_names rest.0 ++ (open_names new ++ hidden)
open_around old new rest hidden =
    ap (λ (es : List Entry). open_names es ++ hidden) rest.1 ∙ ap (λ names. names ++ hidden) (open_names-append rest.0 new)
    ∙ append_assoc (open_names rest.0) (open_names new) hidden

-- what has no mark in a list has none in what is left of it, and marks that are apart are so there
pub rest_opens_nothing : (name : Name) (old new : List Entry) → IsRest old new → is_in name (open_names old) ≡ false → is_in name (open_names new) ≡ false
rest_opens_nothing name old new (front, p) h = not_in_later name (open_names front) (open_names new) (rw (p, open_names-append) at h)

pub rest_is_apart : (old new : List Entry) → IsRest old new → HasApartMarks old → HasApartMarks new
rest_is_apart old new (front, p) h = apart_later (open_names front) (open_names new) (rw (p, open_names-append) at h)

-- a macro's replacement holds no mark but its own
open_followed_by : (tokens : List Read) (entries : List Entry) → open_names (followed_by tokens entries) ≡ open_names entries
open_followed_by [] entries = refl
open_followed_by (token ∷ tokens) entries = open_followed_by tokens entries

open_replacement : (arguments : List (List Read)) (text : ℕ) (token : Token) (position : Option ℕ) (entries : List Entry)
    → open_names (replacement arguments text token position entries) ≡ open_names entries
open_replacement arguments text token None entries = refl
open_replacement arguments text token (Some k) entries = open_followed_by (unwrap_or (slice_get arguments k) []) entries

open_replaced : (parameters : List Name) (arguments : List (List Read)) (text : ℕ) (body : List Token) (entries : List Entry)
    → open_names (body_before parameters arguments text body entries) ≡ open_names entries
open_replaced parameters arguments text [] entries = refl
open_replaced parameters arguments text (token ∷ body) entries =
    open_replacement arguments text token (parameter_of parameters token.value) (body_before parameters arguments text body entries)
    ∙ open_replaced parameters arguments text body entries

pub open_spliced : (name : Name) (definition : Definition) (call : CallPlace) (arguments : List (List Read)) (entries : List Entry)
    → open_names (macro_before name definition call arguments entries) ≡ name ∷ open_names entries
open_spliced name definition call arguments entries = open_replaced definition.parameters arguments definition.text definition.body
    (End (record { name = name; call = call }) ∷ entries)

-- what is known of a token that was taken and opens a macro
pub record IsOpening {R : Type 0} (I : Reading R) (e : Expander R) (o : Taken) (m : Opening) : Type 0 where
  pub token : Read
  pub taken : o ≡ taken.Token token
  pub same : token.token ≡ m.token
  pub named : m.token.value ≡ Ident m.name
  pub free : I.is_reserved m.name ≡ false
  pub unpainted : token.painted ≡ false
  pub defined : I.visible e.reader m.name ≡ Some m.definition

module _ {R : Type 0} (I : Reading R) (e : Expander R) where
  opening_by_name : (read : Read) (name : Name) (m : Opening) → read.token.value ≡ Ident name → I.is_reserved name ≡ false
      → read.painted ≡ false → (found : Option Definition) → I.visible e.reader name ≡ found → opening_by read name found ≡ Some m
      → IsOpening I e (taken.Token read) m
  opening_by_name read name m named free bare None defined h = cc
  opening_by_name read name m named free bare (Some definition) defined h =
      let same : record { text = read.text; token = read.token; name = name; definition = definition } ≡ m = cc in
      rw (← same) (record { token = read; taken = refl; same = refl; named = named; free = free; unpainted = bare; defined = defined })

  opening_of_value : (read : Read) (m : Opening) (v : TokenValue) → read.token.value ≡ v → opening_of I e read v ≡ Some m → IsOpening I e (taken.Token read) m
  opening_of_value read m (Ident name) named h = go (I.is_reserved name) refl read.painted refl
    where
      go : (b : Bool) → I.is_reserved name ≡ b → (c : Bool) → read.painted ≡ c → IsOpening I e (taken.Token read) m
      go true p c q = let bad : None ≡ Some m = rw p at h in cc
      go false p true q = let bad : None ≡ Some m = rw (p, q) at h in cc
      go false p false q = opening_by_name read name m named p q (I.visible e.reader name) refl (rw (p, q) at h)
  opening_of_value read m _ named h = cc

  pub opening_known : (o : Taken) (m : Opening) → opening I e o ≡ Some m → IsOpening I e o m
  opening_known (taken.Token read) m h = opening_of_value read m read.token.value refl h
  opening_known _ m h = cc

-- a token that is painted among these names and isn't painted is none of them
unpainted_is_none : (names : List Name) (first : Taken) (read : Read) (name : Name) → taken.Token read ≡ taken_among names first
    → read.token.value ≡ Ident name → read.painted ≡ false → is_in name names ≡ false
unpainted_is_none names (taken.Token before) read name e named bare =
    let same : read ≡ painted_among names before = cc in
    let value : before.token.value ≡ Ident name = ap (λ r. r.token.value) (sym same) ∙ named in
    let painted : before.painted || is_one_of names before.token.value ≡ false = ap (λ r. r.painted) (sym same) ∙ bare in
    let none : is_one_of names before.token.value ≡ false = (neither before.painted (is_one_of names before.token.value) painted).1 in
    ap (is_one_of names) (sym value) ∙ none
unpainted_is_none names (taken.Fault fault) read name e named bare = cc
unpainted_is_none names taken.End read name e named bare = cc

-- where it was taken, it is open neither here nor around
pub opening_not_masked : {R : Type 0} (I : Reading R) (o : Taken) (m : Opening) (d e : Expander R) → Takes I d o e → opening I e o ≡ Some m
    → is_in m.name (masked_names e) ≡ false
opening_not_masked I o m d e t h =
    let k = opening_known I e o m h in
    unpainted_is_none (masked_names e) t.first k.token m.name (sym k.taken ∙ t.paints) (ap (λ x. x.value) k.same ∙ k.named) k.unpainted

-- it has no mark in the list
pub opening_not_open : {R : Type 0} (I : Reading R) (o : Taken) (m : Opening) (d e : Expander R) → Takes I d o e → opening I e o ≡ Some m
    → is_in m.name (open_names e.list) ≡ false
opening_not_open I o m d e t h = (not_in_both m.name (open_names e.list) e.hidden (opening_not_masked I o m d e t h)).0
