-- What the entries of a macro's body stand for.
use Rattle.std.proofs.Common.{◌≡◌, ◌∙◌, ℕ, zero, suc, ◌+◌, ◌<◌, ◌≤◌, Bool, false, List, [], ◌∷◌, ◌++◌, length, drop, map, set, get_or, refl, sym, ap, Option, Some, None, Bor, arith, tests}
use Rattle.std.specs.Prelude.{◌↔◌, IsTrue, MatchOption, slice_index_or}
use Rattle.std.specs.Bool.{Decides}
use Rattle.std.specs.Slice.{IsItemAt}
use Rattle.std.specs.List.{zip, list_all}
use Rattle.std.proofs.Math.Seq.{map-set_same}
use Rattle.std.proofs.lemmas.Bool.Decides.{Decides-and, Decides-like, Decides-eqb}
use Rattle.std.proofs.lemmas.List.{drop-map, drop-set, drop_all, drop_more}
use Rattle.std.proofs.lemmas.List.Quantifiers.{position-Some}
use Rattle.pp_lexer.specs.Spelling.{values_of}
use Rattle.pp_lexer.specs.declared.token.Token.{Token}
use Rattle.pp_lexer.specs.declared.token.TokenValue.{TokenValue}
use Rattle.pp_lexer.specs.declared.token.TokenValue.TheVariants.{Ident}
use Rattle.pp_model.specs.Names.{Name, is_same_name}
use Rattle.pp_model.specs.Definitions.{Definition, IsSameDefinition}
use Rattle.pp_model.specs.SpliceList.{parameter_of}
use Rattle.pp_macros.specs.declared.define.BodyEntry.{BodyEntry}
use Rattle.pp_macros.specs.declared.define.BodyEntry.TheVariants as entry
use Rattle.pp_lexer.proofs.values.EqualityLemmas.{value_decides}
use Rattle.pp_macros.specs.inner.Bodies.{AreEntries, AreFound, IsEntry, IsEntryAt, IsFound, body_of, is_same_entry, token_of, unnumbered, noted_at, noted_in}
use Rattle.pp_macros.specs.inner.Defined.{Numbered}
use Rattle.pp_lexer.specs.declared.token.Location.{Location}
use Rattle.std.proofs.lemmas.List.Elements.{All-push}
use Rattle.pp_macros.proofs.defined_names.NameKeysLemmas.{names_same}

-- the value that names a parameter is the identifier of its name
pub parameter_named : (parameters : List Name) (value : TokenValue) (k : ℕ) → parameter_of parameters value ≡ Some k
    → Ident (slice_index_or parameters k []) ≡ value
parameter_named parameters (Ident name) k e =
    ap Ident (sym (names_same name (slice_index_or parameters k []) (position-Some (is_same_name name) parameters k [] e).1))
parameter_named parameters value k e = cc

-- where the body has the name of a parameter, that is an entry for it
pub parameter_found : (parameters : List Name) (value : TokenValue) (k : ℕ) (location : Location) → parameter_of parameters value ≡ Some k
    → IsFound parameters (entry.Parameter k location false)
    × (token_of parameters (entry.Parameter k location false) ≡ record { value = value; location = location })
parameter_found parameters value k location e =
    let named = parameter_named parameters value k e in
    (ap (parameter_of parameters) named ∙ e, ap (λ (v : TokenValue). record { value = v; location = location }) named)

-- an entry that is right before what follows is right before that is known
entry_is_found : (parameters : List Name) (e : BodyEntry) (rest : List Token) → IsEntry parameters e rest → IsFound parameters e
entry_is_found parameters (entry.Token token number) rest is = is
entry_is_found parameters (entry.Parameter k location is_last) rest is = is.0

append_empty : (xs ys : List Numbered) → xs ++ ys ≡ [] → (xs ≡ []) × (ys ≡ [])
append_empty [] ys e = (refl, e)
append_empty (x ∷ xs) ys e = cc

noted_more : (entries : List BodyEntry) (e : BodyEntry) → noted_in entries ≡ [] → noted_at e ≡ [] → noted_in (entries ++ e ∷ []) ≡ []
noted_more [] e none bare = rw bare refl
noted_more (x ∷ xs) e none bare =
    let both = append_empty (noted_at x) (noted_in xs) none in
    rw (both.0) (noted_more xs e both.1 bare)

-- one more entry of a body that is being read
pub found_more : (parameters : List Name) (entries : List BodyEntry) (e : BodyEntry) → AreFound parameters entries × (noted_in entries ≡ [])
    → IsFound parameters e → noted_at e ≡ [] → AreFound parameters (entries ++ e ∷ []) × (noted_in (entries ++ e ∷ []) ≡ [])
found_more parameters entries e before found bare =
    (All-push (IsFound parameters) entries e before.0 found, noted_more entries e before.1 bare)

noted_set : (entries : List BodyEntry) (i : ℕ) (d e : BodyEntry) → noted_at e ≡ noted_at (get_or entries i d)
    → noted_in (set entries i e) ≡ noted_in entries
noted_set [] i d e same = refl
noted_set (x ∷ xs) zero d e same = rw same refl
noted_set (x ∷ xs) (suc i) d e same = ap (λ (later : List Numbered). noted_at x ++ later) (noted_set xs i d e same)

found_set : (parameters : List Name) (entries : List BodyEntry) (i : ℕ) (e : BodyEntry) → AreFound parameters entries → IsFound parameters e
    → AreFound parameters (set entries i e)
found_set parameters [] i e all found k d within = all k d within
found_set parameters (x ∷ xs) zero e all found zero d within = found
found_set parameters (x ∷ xs) zero e all found (suc k) d within = all (suc k) d within
found_set parameters (x ∷ xs) (suc i) e all found zero d within = all zero d (omega arith)
found_set parameters (x ∷ xs) (suc i) e all found (suc k) d within =
    found_set parameters xs i e (λ j other inside. all (suc j) other (omega (arith, inside))) found k d (omega (arith, within))

-- one more entry, from behind, is marked: before what follows it is right, and all else is as it was
pub record MarksOne (parameters : List Name) (entries : List BodyEntry) (i : ℕ) (e : BodyEntry) : Type 0 where
  pub body : body_of parameters (set entries i e) ≡ body_of parameters entries
  pub noted : noted_in (set entries i e) ≡ noted_in entries
  pub found : AreFound parameters (set entries i e)
  pub marked : AreEntries parameters (drop i (set entries i e))

pub marks_one : (parameters : List Name) (entries : List BodyEntry) (i : ℕ) (d e : BodyEntry) → i < length entries
    → token_of parameters e ≡ token_of parameters (get_or entries i d) → noted_at e ≡ noted_at (get_or entries i d)
    → IsEntry parameters e (body_of parameters (drop (i + 1) entries)) → AreFound parameters entries → AreEntries parameters (drop (i + 1) entries)
    → MarksOne parameters entries i e
marks_one parameters entries i d e within token noted is found marked = record {
  body = map-set_same (token_of parameters) entries i e d token;
  noted = noted_set entries i d e noted;
  found = found_set parameters entries i e found (entry_is_found parameters e _ is);
  marked = rw (drop-set entries i e within) (is, marked);
}

-- the entries from a position on
are_dropped : (parameters : List Name) (entries : List BodyEntry) (k : ℕ) → AreEntries parameters entries → AreEntries parameters (drop k entries)
are_dropped parameters entries zero all = all
are_dropped parameters [] (suc k) all = all
are_dropped parameters (e ∷ rest) (suc k) all = are_dropped parameters rest k all.1

-- what stands at a position
pub entry_found : (function_like : Bool) (parameters : List Name) (entries : List BodyEntry) (text k : ℕ) (found : Option (Bor BodyEntry))
    → AreEntries parameters entries → IsItemAt entries k found
    → let definition : Definition = record {
      function_like = function_like;
      parameters = parameters;
      body = body_of parameters entries;
      text = text;
    } in
    MatchOption found (drop k definition.body ≡ []) (λ r. IsEntryAt definition k r.now)
entry_found function_like parameters entries text k None all is =
    let past : length entries ≤ k = grind (arith, tests, is.0) in
    drop-map (token_of parameters) k entries ∙ ap (body_of parameters) (drop_all k entries past)
entry_found function_like parameters entries text k (Some r) all is =
    let within : k < length entries = grind (arith, tests, is.0) in
    let here : drop k entries ≡ r.now ∷ drop (k + 1) entries
    = drop_more entries k r.now within ∙ ap (λ (e : BodyEntry). e ∷ drop (k + 1) entries) (sym is.1) in
    let right : AreEntries parameters (r.now ∷ drop (k + 1) entries) = rw here at (are_dropped parameters entries k all) in
    record {
      tokens = rw (drop-map (token_of parameters) k entries, here, drop-map (token_of parameters) (k + 1) entries) refl;
      is_right = rw (drop-map (token_of parameters) (k + 1) entries) right.0;
    }

-- two entries are the same if they stand for the same value
entry_decides : (parameters : List Name) (x y : BodyEntry) (xs ys : List Token) → IsEntry parameters x xs → IsEntry parameters y ys
    → Decides (is_same_entry x y) ((token_of parameters x).value ≡ (token_of parameters y).value)
entry_decides parameters (entry.Token a n) (entry.Token b m) xs ys p q = value_decides a.value b.value
entry_decides parameters (entry.Parameter k l i) (entry.Parameter j m h) xs ys p q =
    Decides-like _ (λ e. ap (λ (n : ℕ). Ident (slice_index_or parameters n [])) e)
    (λ e.
    let same : Some k ≡ Some j = sym p.0 ∙ ap (parameter_of parameters) e ∙ q.0 in
    cc) (Decides-eqb k j)
entry_decides parameters (entry.Token a n) (entry.Parameter j m h) xs ys p q = (
  λ bad. cc,
  λ e.
      let never : None ≡ Some j = sym p.1 ∙ ap (parameter_of parameters) e ∙ q.0 in
      cc,
)
entry_decides parameters (entry.Parameter k l i) (entry.Token b m) xs ys p q = (
  λ bad. cc,
  λ e.
      let never : Some k ≡ None = sym p.0 ∙ ap (parameter_of parameters) e ∙ q.1 in
      cc,
)

-- the same of all entries of two bodies with these parameters
pub entries_decide : (parameters : List Name) (xs ys : List BodyEntry) → length xs ≡ length ys → AreEntries parameters xs → AreEntries parameters ys
    → Decides (list_all (λ (p : BodyEntry × BodyEntry). is_same_entry p.0 p.1) (zip xs ys))
    (values_of (body_of parameters xs) ≡ values_of (body_of parameters ys))
entries_decide parameters [] [] n p q = (λ _. refl, λ _. refl)
entries_decide parameters (x ∷ xs) [] n p q = absurd (omega arith)
entries_decide parameters [] (y ∷ ys) n p q = absurd (omega arith)
entries_decide parameters (x ∷ xs) (y ∷ ys) n p q =
    Decides-like _ (λ both. cc) (λ same. (cc, cc))
    (Decides-and _ _ (entry_decides parameters x y (body_of parameters xs) (body_of parameters ys) p.0 q.0)
    (entries_decide parameters xs ys (omega arith) p.1 q.1))

-- two definitions of one kind with the same parameters say the same if their bodies have the same values
pub same_definition : (f g : Bool) (ps qs : List Name) (xs ys : List BodyEntry) (s t : ℕ) (r : Bool) → f ≡ g → ps ≡ qs → AreEntries ps xs → AreEntries qs ys
    → ((parameters : List Name) → AreEntries parameters xs → AreEntries parameters ys
    → IsTrue r ↔ (values_of (body_of parameters xs) ≡ values_of (body_of parameters ys)))
    → IsTrue r ↔ IsSameDefinition (record { function_like = f; parameters = ps; body = body_of ps xs; text = s })
    (record { function_like = g; parameters = qs; body = body_of qs ys; text = t })
same_definition f g ps qs xs ys s t r kind names p q tells =
    let decided = tells qs (rw names at p) q in (
      λ yes. record { kind = kind; parameters = names; body = rw names (decided.0 yes) },
      λ same. decided.1 (rw names at same.body),
    )

-- an entry that only has another number
pub number_changed : (old new : List BodyEntry) (i : ℕ) (e other : BodyEntry) → new ≡ set old i other
    → unnumbered other ≡ unnumbered (get_or old i e)
    → map unnumbered new ≡ map unnumbered old
number_changed old new i e other is same = rw is (map-set_same unnumbered old i other e same)

token_unnumbered : (parameters : List Name) (e : BodyEntry) → token_of parameters (unnumbered e) ≡ token_of parameters e
token_unnumbered parameters (entry.Token token number) = refl
token_unnumbered parameters (entry.Parameter k location is_last) = refl

body_unnumbered : (parameters : List Name) (entries : List BodyEntry) → body_of parameters (map unnumbered entries) ≡ body_of parameters entries
body_unnumbered parameters [] = refl
body_unnumbered parameters (e ∷ rest) = rw (token_unnumbered parameters e, body_unnumbered parameters rest) refl

is_unnumbered : (parameters : List Name) (e : BodyEntry) (rest : List Token) → IsEntry parameters (unnumbered e) rest ↔ IsEntry parameters e rest
is_unnumbered parameters (entry.Token token number) rest = (λ p. p, λ p. p)
is_unnumbered parameters (entry.Parameter k location is_last) rest = (λ p. p, λ p. p)

are_unnumbered : (parameters : List Name) (entries : List BodyEntry)
    → AreEntries parameters (map unnumbered entries) ↔ AreEntries parameters entries
are_unnumbered parameters [] = (λ p. p, λ p. p)
are_unnumbered parameters (e ∷ rest) = (
  λ p. ((is_unnumbered parameters e _).0 (rw (body_unnumbered parameters rest) at p.0), (are_unnumbered parameters rest).0 p.1),
  λ p. (rw (body_unnumbered parameters rest) ((is_unnumbered parameters e _).1 p.0), (are_unnumbered parameters rest).1 p.1),
)

-- other numbers change nothing else
pub numbers_changed : (parameters : List Name) (old new : List BodyEntry) → map unnumbered new ≡ map unnumbered old
    → (body_of parameters new ≡ body_of parameters old) × (AreEntries parameters old → AreEntries parameters new)
numbers_changed parameters old new same = (
  sym (body_unnumbered parameters new) ∙ ap (body_of parameters) same ∙ body_unnumbered parameters old,
  λ p. (are_unnumbered parameters new).0 (rw same ((are_unnumbered parameters old).1 p)),
)
