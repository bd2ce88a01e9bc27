-- What is alike in lists, options and tokens that are alike.
use Rattle.std.proofs.Common.{◌≡◌, ℕ, zero, suc, Bool, true, false, List, [], ◌∷◌, refl, ap, Option, Some, None}
use Rattle.std.specs.Prelude.{if◌then◌else◌, length, unwrap_or, slice_get, map, drop, ◌&&◌, ◌==◌}
use Rattle.pp_lexer.specs.declared.token.Integer.{Integer as IntegerLiteral}
use Rattle.pp_lexer.specs.declared.token.Token.{Token}
use Rattle.pp_lexer.specs.declared.token.TokenValue.{TokenValue}
use Rattle.pp_model.specs.Calls.{Pieces, is_comma, is_left_paren, nesting_after, cut_before, pieces, arguments_of, is_one_empty, misfit, paren_at}
use Rattle.pp_model.specs.Definitions.{Definition}
use Rattle.pp_model.specs.Emitting.{found_among}
use Rattle.pp_model.specs.Names.{Name, is_identifier, line_name}
use Rattle.pp_model.specs.Painting.{read_in, taken_among}
use Rattle.pp_model.specs.Places.{PlacedFault, place_of, place_in, fault_in}
use Rattle.pp_model.specs.SpliceList.{after_marks, open_names, outermost_call, outermost_line, parameter_of, replacement, body_before, macro_before}
use Rattle.pp_model.specs.Taking.{line_number, shown_token, shown_outcome}
use Rattle.pp_model.specs.declared.place.Place.{Place}
use Rattle.pp_model.specs.declared.read.Read.{Read}
use Rattle.pp_model.specs.declared.read.Taken.{Taken}
use Rattle.pp_model.specs.declared.read.Taken.TheVariants as taken
use Rattle.pp_model.specs.declared.splice.CallPlace.{CallPlace}
use Rattle.pp_model.specs.declared.splice.Entry.{Entry}
use Rattle.pp_model.specs.declared.splice.Entry.TheVariants.{Plain, End}
use Rattle.pp_model.specs.inner.Alike.{Pairs, Both, AlikeRead, AlikePlace, AlikeFault, AlikeTaken, AlikeEntry, AlikeDefinition}
use Rattle.pp_model.specs.inner.Reading.{first_listed}
use Rattle.pp_model.specs.inner.SpliceList.{followed_by}
use Rattle.pp_model.proofs.holding.HoldingLemmas.{number_at}

-- ---- options

pub both_none : {X : Type 0} (R : X → X → Type 0) (o p : Option X) → Both R o p → o ≡ None → p ≡ None
both_none R None None b e = refl
both_none R (Some x) (Some y) b e = cc
both_none R _ _ b e = absurd b

pub both_some : {X : Type 0} (R : X → X → Type 0) (o p : Option X) (x : X) → Both R o p → o ≡ Some x → (y : X) × (p ≡ Some y) × R x y
both_some R None None x b e = cc
both_some R (Some y) (Some z) x b e =
    let same : y ≡ x = cc in
    (z, refl, rw same at b)
both_some R _ _ x b e = absurd b

-- ---- what was taken

-- a token alone is alike to a token
pub of_token : (P : Taken → Type 0) (x : Read) (y : Taken) → AlikeTaken (taken.Token x) y → P y → (z : Read) × P (taken.Token z) × AlikeRead x z
of_token P x (taken.Token z) a p = (z, p, a)
of_token P x _ a p = absurd a

pub of_fault : (P : Taken → Type 0) (x : PlacedFault) (y : Taken) → AlikeTaken (taken.Fault x) y → P y
    → (z : PlacedFault) × P (taken.Fault z) × AlikeFault x z
of_fault P x (taken.Fault z) a p = (z, p, a)
of_fault P x _ a p = absurd a

pub of_end : (P : Taken → Type 0) (y : Taken) → AlikeTaken taken.End y → P y → P taken.End
of_end P taken.End a p = p
of_end P _ a p = absurd a

-- the calls of places don't count
pub place_in_alike : (c d : Option CallPlace) (x y : Place) → AlikePlace x y → AlikePlace (place_in c x) (place_in d y)
place_in_alike None None x y a = a
place_in_alike None (Some d) x y a = a
place_in_alike (Some c) None x y a = a
place_in_alike (Some c) (Some d) x y a = a

pub fault_in_alike : (c d : Option CallPlace) (x y : PlacedFault) → AlikeFault x y → AlikeFault (fault_in c x) (fault_in d y)
fault_in_alike c d x y a = (a.0, place_in_alike c d x.1 y.1 a.1)

pub place_of_alike : (x y : Read) → AlikeRead x y → AlikePlace (place_of x) (place_of y)
place_of_alike x y a = (ap (λ t. t.location) a.0, refl)

pub found_alike : (xs ys : List Entry) (x y : Taken) → AlikeTaken x y → AlikeTaken (found_among xs x) (found_among ys y)
found_alike xs ys (taken.Token x) (taken.Token y) a = a
found_alike xs ys (taken.Fault x) (taken.Fault y) a = fault_in_alike (outermost_call xs) (outermost_call ys) x y a
found_alike xs ys taken.End taken.End a = a
found_alike xs ys _ _ a = absurd a

pub painted_alike : (names : List Name) (x y : Taken) → AlikeTaken x y → AlikeTaken (taken_among names x) (taken_among names y)
painted_alike names (taken.Token x) (taken.Token y) a = (a.0, rw (a.0, a.1) refl)
painted_alike names (taken.Fault x) (taken.Fault y) a = a
painted_alike names taken.End taken.End a = a
painted_alike names _ _ a = absurd a

paren_of_alike : (b c : Bool) → b ≡ c → (x y : Place) → AlikePlace x y → Both AlikePlace (if b then Some x else None) (if c then Some y else None)
paren_of_alike true true e x y a = a
paren_of_alike false false e x y a = tt
paren_of_alike true false e x y a = cc
paren_of_alike false true e x y a = cc

pub paren_alike : (x y : Taken) → AlikeTaken x y → Both AlikePlace (paren_at x) (paren_at y)
paren_alike (taken.Token x) (taken.Token y) a =
    paren_of_alike (is_left_paren x.token.value) (is_left_paren y.token.value) (ap (λ t. is_left_paren t.value) a.0) (place_of x) (place_of y)
    (place_of_alike x y a)
paren_alike (taken.Fault x) (taken.Fault y) a = tt
paren_alike taken.End taken.End a = tt
paren_alike _ _ a = absurd a

-- ---- lists of tokens

pub pairs_length : {X : Type 0} (R : X → X → Type 0) (xs ys : List X) → Pairs R xs ys → length xs ≡ length ys
pairs_length R [] [] p = refl
pairs_length R (x ∷ xs) (y ∷ ys) p = ap (λ n. suc n) (pairs_length R xs ys p.1)
pairs_length R _ _ p = absurd p

pub pairs_get : {X : Type 0} (R : X → X → Type 0) (xs ys : List X) (k : ℕ) → Pairs R xs ys → Both R (slice_get xs k) (slice_get ys k)
pairs_get R [] [] k p = tt
pairs_get R (x ∷ xs) (y ∷ ys) zero p = p.0
pairs_get R (x ∷ xs) (y ∷ ys) (suc k) p = pairs_get R xs ys k p.1
pairs_get R _ _ k p = absurd p

pub pairs_drop : {X : Type 0} (R : X → X → Type 0) (xs ys : List X) (k : ℕ) → Pairs R xs ys → Pairs R (drop k xs) (drop k ys)
pairs_drop R xs ys zero p = p
pairs_drop R [] [] (suc k) p = tt
pairs_drop R (x ∷ xs) (y ∷ ys) (suc k) p = pairs_drop R xs ys k p.1
pairs_drop R _ _ _ p = absurd p

-- the same tokens in two texts
pub read_in_alike : (t u : ℕ) (tokens : List Token) → Pairs AlikeRead (map (read_in t) tokens) (map (read_in u) tokens)
read_in_alike t u [] = tt
read_in_alike t u (token ∷ tokens) = ((refl, refl), read_in_alike t u tokens)

pub first_listed_alike : (xs ys : List Read) → Pairs AlikeRead xs ys → AlikeTaken (first_listed xs) (first_listed ys)
first_listed_alike [] [] p = tt
first_listed_alike (x ∷ xs) (y ∷ ys) p = p.0
first_listed_alike _ _ p = absurd p

-- ---- a list's entries

pub after_marks_alike : (xs ys : List Entry) → Pairs AlikeEntry xs ys → Pairs AlikeEntry (after_marks xs) (after_marks ys)
after_marks_alike [] [] p = tt
after_marks_alike (End x ∷ xs) (End y ∷ ys) p = after_marks_alike xs ys p.1
after_marks_alike (End x ∷ xs) (Plain y ∷ ys) p = absurd p.0
after_marks_alike (Plain x ∷ xs) (End y ∷ ys) p = absurd p.0
after_marks_alike (Plain x ∷ xs) (Plain y ∷ ys) p = p
after_marks_alike _ _ p = absurd p

pub open_names_alike : (xs ys : List Entry) → Pairs AlikeEntry xs ys → open_names xs ≡ open_names ys
open_names_alike [] [] p = refl
open_names_alike (End x ∷ xs) (End y ∷ ys) p = rw (p.0.0, open_names_alike xs ys p.1) refl
open_names_alike (End x ∷ xs) (Plain y ∷ ys) p = absurd p.0
open_names_alike (Plain x ∷ xs) (End y ∷ ys) p = absurd p.0
open_names_alike (Plain x ∷ xs) (Plain y ∷ ys) p = open_names_alike xs ys p.1
open_names_alike _ _ p = absurd p

abbrev SameLine : CallPlace → CallPlace → Type 0
SameLine x y = x.line ≡ y.line

one_of_calls : (o p : Option CallPlace) (x y : CallPlace) → Both SameLine o p → SameLine x y → SameLine (unwrap_or o x) (unwrap_or p y)
one_of_calls None None x y b e = e
one_of_calls (Some c) (Some d) x y b e = b
one_of_calls _ _ x y b e = absurd b

outermost_call_alike : (xs ys : List Entry) → Pairs AlikeEntry xs ys → Both SameLine (outermost_call xs) (outermost_call ys)
outermost_call_alike [] [] p = tt
outermost_call_alike (End x ∷ xs) (End y ∷ ys) p =
    one_of_calls (outermost_call xs) (outermost_call ys) x.call y.call (outermost_call_alike xs ys p.1) p.0.1
outermost_call_alike (End x ∷ xs) (Plain y ∷ ys) p = absurd p.0
outermost_call_alike (Plain x ∷ xs) (End y ∷ ys) p = absurd p.0
outermost_call_alike (Plain x ∷ xs) (Plain y ∷ ys) p = outermost_call_alike xs ys p.1
outermost_call_alike _ _ p = absurd p

pub outermost_line_alike : (xs ys : List Entry) → Pairs AlikeEntry xs ys → outermost_line xs ≡ outermost_line ys
outermost_line_alike xs ys p = go (outermost_call xs) (outermost_call ys) refl refl (outermost_call_alike xs ys p)
  where
    go : (c d : Option CallPlace) → outermost_call xs ≡ c → outermost_call ys ≡ d → Both SameLine c d → outermost_line xs ≡ outermost_line ys
    go None None e f b = rw (e, f) refl
    go (Some c) (Some d) e f b = rw (e, f) (ap Some b)
    go _ _ e f b = absurd b

-- ---- what is spliced in

followed_alike : (cs bs : List Read) (xs ys : List Entry) → Pairs AlikeRead cs bs → Pairs AlikeEntry xs ys
    → Pairs AlikeEntry (followed_by cs xs) (followed_by bs ys)
followed_alike [] [] xs ys p q = q
followed_alike (a ∷ cs) (b ∷ bs) xs ys p q = (p.0, followed_alike cs bs xs ys p.1 q)
followed_alike _ _ xs ys p q = absurd p

argument_alike : (k : ℕ) (cs bs : List (List Read)) → Pairs (Pairs AlikeRead) cs bs
    → Pairs AlikeRead (unwrap_or (slice_get cs k) []) (unwrap_or (slice_get bs k) [])
argument_alike k [] [] p = tt
argument_alike zero (a ∷ cs) (b ∷ bs) p = p.0
argument_alike (suc k) (a ∷ cs) (b ∷ bs) p = argument_alike k cs bs p.1
argument_alike k _ _ p = absurd p

replacement_alike : (cs bs : List (List Read)) (t u : ℕ) (token : Token) (k : Option ℕ) (xs ys : List Entry)
    → Pairs (Pairs AlikeRead) cs bs → Pairs AlikeEntry xs ys → Pairs AlikeEntry (replacement cs t token k xs) (replacement bs u token k ys)
replacement_alike cs bs t u token None xs ys p q = ((refl, refl), q)
replacement_alike cs bs t u token (Some k) xs ys p q =
    followed_alike (unwrap_or (slice_get cs k) []) (unwrap_or (slice_get bs k) []) xs ys (argument_alike k cs bs p) q

body_alike : (parameters : List Name) (cs bs : List (List Read)) (t u : ℕ) (body : List Token) (xs ys : List Entry)
    → Pairs (Pairs AlikeRead) cs bs → Pairs AlikeEntry xs ys
    → Pairs AlikeEntry (body_before parameters cs t body xs) (body_before parameters bs u body ys)
body_alike parameters cs bs t u [] xs ys p q = q
body_alike parameters cs bs t u (token ∷ body) xs ys p q =
    replacement_alike cs bs t u token (parameter_of parameters token.value) (body_before parameters cs t body xs) (body_before parameters bs u body ys) p
    (body_alike parameters cs bs t u body xs ys p q)

pub macro_alike : (m n : Name) (d f : Definition) (c g : CallPlace) (cs bs : List (List Read)) (xs ys : List Entry)
    → m ≡ n → AlikeDefinition d f → c.line ≡ g.line → Pairs (Pairs AlikeRead) cs bs → Pairs AlikeEntry xs ys
    → Pairs AlikeEntry (macro_before m d c cs xs) (macro_before n f g bs ys)
macro_alike m n d f c g cs bs xs ys named same line p q =
    rw (same.1, same.2)
    (body_alike f.parameters cs bs d.text f.text f.body (End (record { name = m; call = c }) ∷ xs) (End (record { name = n; call = g }) ∷ ys) p
    ((named, line), q))

-- ---- arguments

cut_alike : (parts : Bool) (x y : Read) (cut piece : Pieces) → AlikeRead x y → Pairs AlikeRead cut.first piece.first
    → Pairs (Pairs AlikeRead) cut.others piece.others
    → Pairs AlikeRead (cut_before parts x cut).first (cut_before parts y piece).first
    × Pairs (Pairs AlikeRead) (cut_before parts x cut).others (cut_before parts y piece).others
cut_alike true x y cut piece a p q = (tt, (p, q))
cut_alike false x y cut piece a p q = ((a, p), q)

abbrev AlikePieces : Pieces → Pieces → Type 0
AlikePieces x y = Pairs AlikeRead x.first y.first × Pairs (Pairs AlikeRead) x.others y.others

one_more_alike : (n : ℕ) (v w : TokenValue) (x y : Read) (xs ys : List Read) → v ≡ w → AlikeRead x y
    → AlikePieces (pieces (nesting_after n w) xs) (pieces (nesting_after n w) ys)
    → AlikePieces (cut_before (is_comma v && (n == 0)) x (pieces (nesting_after n v) xs))
    (cut_before (is_comma w && (n == 0)) y (pieces (nesting_after n w) ys))
one_more_alike n v w x y xs ys e a later =
    rw e (cut_alike (is_comma w && (n == 0)) x y (pieces (nesting_after n w) xs) (pieces (nesting_after n w) ys) a later.0 later.1)

pieces_alike : (n : ℕ) (xs ys : List Read) → Pairs AlikeRead xs ys → AlikePieces (pieces n xs) (pieces n ys)
pieces_alike n [] [] p = (tt, tt)
pieces_alike n (x ∷ xs) (y ∷ ys) p =
    one_more_alike n x.token.value y.token.value x y xs ys (ap (λ t. t.value) p.0.0) p.0 (pieces_alike (nesting_after n y.token.value) xs ys p.1)
pieces_alike n _ _ p = absurd p

pub arguments_alike : (xs ys : List Read) → Pairs AlikeRead xs ys → Pairs (Pairs AlikeRead) (arguments_of xs) (arguments_of ys)
arguments_alike xs ys p = pieces_alike 0 xs ys p

one_empty_alike : (cs bs : List (List Read)) → Pairs (Pairs AlikeRead) cs bs → is_one_empty cs ≡ is_one_empty bs
one_empty_alike [] [] p = refl
one_empty_alike ([] ∷ []) ([] ∷ []) p = refl
one_empty_alike ([] ∷ []) ([] ∷ c ∷ bs) p = absurd p.1
one_empty_alike ([] ∷ c ∷ cs) ([] ∷ []) p = absurd p.1
one_empty_alike ([] ∷ c ∷ cs) ([] ∷ d ∷ bs) p = refl
one_empty_alike ([] ∷ cs) ((y ∷ b) ∷ bs) p = absurd p.0
one_empty_alike ((x ∷ a) ∷ cs) ([] ∷ bs) p = absurd p.0
one_empty_alike ((x ∷ a) ∷ cs) ((y ∷ b) ∷ bs) p = refl
one_empty_alike _ _ p = absurd p

pub misfit_alike : (m n : List Name) (cs bs : List (List Read)) → m ≡ n → Pairs (Pairs AlikeRead) cs bs → misfit m cs ≡ misfit n bs
misfit_alike m n cs bs e p = rw (e, pairs_length (Pairs AlikeRead) cs bs p, one_empty_alike cs bs p) refl

-- ---- the numbers of lines

number_alike : (x y : Place) (number : Option IntegerLiteral) → AlikePlace x y → AlikeTaken (line_number x number) (line_number y number)
number_alike x y None a = (refl, a)
number_alike x y (Some number) a = (ap (λ place. number_at place number) a.0, refl)

shown_if_alike : (b c : Bool) → b ≡ c → (n m : Taken) (x y : Read) → AlikeTaken n m → AlikeRead x y
    → AlikeTaken (if b then n else taken.Token x) (if c then m else taken.Token y)
shown_if_alike true true e n m x y h a = h
shown_if_alike false false e n m x y h a = a
shown_if_alike true false e n m x y h a = cc
shown_if_alike false true e n m x y h a = cc

module _ (f g : ℕ → Option IntegerLiteral) (same : (line : ℕ) → f line ≡ g line) where
  pub shown_alike : (xs ys : List Entry) (x y : Read) → Pairs AlikeEntry xs ys → AlikeRead x y → AlikeTaken (shown_token f xs x) (shown_token g ys y)
  shown_alike xs ys x y p a =
      let line : unwrap_or (outermost_line xs) x.token.location.line ≡ unwrap_or (outermost_line ys) y.token.location.line =
      rw (outermost_line_alike xs ys p, a.0) refl in
      let number : f (unwrap_or (outermost_line xs) x.token.location.line) ≡ g (unwrap_or (outermost_line ys) y.token.location.line) =
      rw line (same _) in
      shown_if_alike (is_identifier line_name x.token.value) (is_identifier line_name y.token.value) (ap (λ t. is_identifier line_name t.value) a.0)
      (line_number (place_of x) (f (unwrap_or (outermost_line xs) x.token.location.line)))
      (line_number (place_of y) (g (unwrap_or (outermost_line ys) y.token.location.line))) x y
      (rw number (number_alike (place_of x) (place_of y) (g (unwrap_or (outermost_line ys) y.token.location.line)) (place_of_alike x y a))) a

  pub shown_outcome_alike : (x y : Taken) → AlikeTaken x y → AlikeTaken (shown_outcome f x) (shown_outcome g y)
  shown_outcome_alike (taken.Token x) (taken.Token y) a = shown_alike [] [] x y tt a
  shown_outcome_alike (taken.Fault x) (taken.Fault y) a = a
  shown_outcome_alike taken.End taken.End a = a
  shown_outcome_alike _ _ a = absurd a
