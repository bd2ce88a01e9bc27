-- Parts that show files whole.
use Rattle.std.proofs.Common.{◌≡◌, ◌∙◌, ◌<◌, ◌≤◌, ◌+◌, ℕ, List, [], ◌∷◌, ◌++◌, Option, Some, true, if◌then◌else◌, take, length, get_or, refl, ap, sym, subst, append-nil, arith, inl, inr}
use Rattle.std.specs.Prelude.{◌==◌, Vec}
use Rattle.std.specs.List.{All, flat_map, slice_get}
use Rattle.std.proofs.lemmas.Bool.Decides.{eqb_tells}
use Rattle.std.proofs.lemmas.Grind.{flat_map-append}
use Rattle.std.proofs.lemmas.List.{take_all, take_more}
use Rattle.std.proofs.lemmas.List.Elements.{All-nil, All-push}
use Rattle.std.proofs.lemmas.Option.{get_or_from_slice_get, slice_get_within}
use Rattle.glslpp_html.specs.Pages.{AreEachWhole, text_in_file, text_of_file, text_of_part}
use Rattle.glslpp_html.specs.declared.page.File.{File}
use Rattle.glslpp_html.specs.declared.page.Part.{Part}

-- what holds of one more element, too
pub one_more_holds : {X : Type 0} (P : X → Type 0) (xs : List X) (i : ℕ) (x : X) → i < length xs → x ≡ get_or xs i x → All P (take i xs) → P x
    → All P (take (i + 1) xs)
one_more_holds P xs i x below is all one =
    subst (All P) (sym (take_more xs i x below ∙ ap (λ y. take i xs ++ y ∷ []) (sym is))) (All-push P (take i xs) x all one)

-- the texts of one more element
pub text_more : {X : Type 0} (f : X → List ℕ) (xs : List X) (x : X) → flat_map f (xs ++ x ∷ []) ≡ flat_map f xs ++ f x
text_more f xs x = flat_map-append f xs (x ∷ []) ∙ ap (λ t. flat_map f xs ++ t) (append-nil (f x))

pub next_text : {X : Type 0} (f : X → List ℕ) (xs : List X) (i : ℕ) (x : X) → i < length xs → x ≡ get_or xs i x
    → flat_map f (take (i + 1) xs) ≡ flat_map f (take i xs) ++ f x
next_text f xs i x below is = ap (flat_map f) (take_more xs i x below ∙ ap (λ y. take i xs ++ y ∷ []) (sym is)) ∙ text_more f (take i xs) x

-- at the end the elements so far are all
pub all_of_them : {X A : Type 0} (f : X → List A) (xs : List X) (i : ℕ) → length xs ≤ i → flat_map f (take i xs) ≡ flat_map f xs
all_of_them f xs i past = ap (flat_map f) (take_all i xs past)

-- what each of the files before one is shown as
abbrev pub AreEachWholeBefore : List File → List Part → ℕ → Type 0
AreEachWholeBefore files parts count =
    (number : ℕ) (file : File) → number < count → slice_get files number ≡ Some file → flat_map (text_in_file number) parts ≡ text_of_file file

-- one more file, which is the one with this number
same_file : (files : List File) (number : ℕ) (d file : File) → number < length files → slice_get files number ≡ Some file → get_or files number d ≡ file
same_file files number d file below is = get_or_from_slice_get files number file d is

pub each_more : (files : List File) (parts : List Part) (number : ℕ) (d : File) → number < length files → AreEachWholeBefore files parts number
    → flat_map (text_in_file number) parts ≡ text_of_file (get_or files number d) → AreEachWholeBefore files parts (number + 1)
each_more files parts number d below before whole n file within is = elim (eqb_tells n number) [
  | inl h ↦ ap (λ m. flat_map (text_in_file m) parts) h.1 ∙ whole
      ∙ ap text_of_file (same_file files number d file below (ap (slice_get files) (sym h.1) ∙ is))
  | inr h ↦ before n file (omega (arith, within, h.1)) is
]

pub each_at_end : (files : List File) (parts : List Part) (count : ℕ) → length files ≤ count → AreEachWholeBefore files parts count → AreEachWhole files parts
each_at_end files parts count past before number file is = before number file (omega (arith, past, slice_get_within files number file is)) is

-- a part of the file with the next number shows nothing of another file
other_file : (n number : ℕ) (part : Part) → part.file ≡ number → (n ≡ number → ⊥) → text_in_file n part ≡ []
other_file n number part is differs = elim (eqb_tells part.file n) [
  | inl h ↦ absurd (differs (sym h.1 ∙ is))
  | inr h ↦ rw h.0 refl
]

own_file : (number : ℕ) (part : Part) → part.file ≡ number → text_in_file number part ≡ text_of_part part
own_file number part is = elim (eqb_tells part.file number) [ inl h ↦ rw h.0 refl | inr h ↦ absurd (h.1 is) ]

-- parts of the files before one, each of which is one part
pub record AreUndivided (files : List File) (parts : List Part) (count : ℕ) : Type 0 where
  pub before : AreEachWholeBefore files parts count
  pub behind : (number : ℕ) → count ≤ number → flat_map (text_in_file number) parts ≡ []
  pub no_other : All (λ part. part.file < length files) parts

pub none_undivided : (files : List File) (parts : List Part) → parts ≡ [] → AreUndivided files parts 0
none_undivided files parts none = record {
  before = λ number file below. absurd (omega (arith, below));
  behind = λ number past. ap (flat_map (text_in_file number)) none;
  no_other = subst (All (λ part. part.file < length files)) (sym none) (All-nil (λ part. part.file < length files));
}

pub one_more_undivided : (files : List File) (parts new : List Part) (count : ℕ) (d : File) (part : Part) → count < length files
    → AreUndivided files parts count → new ≡ parts ++ part ∷ [] → part.file ≡ count → text_of_part part ≡ text_of_file (get_or files count d)
    → AreUndivided files new (count + 1)
one_more_undivided files parts new count d part below u grown number text =
    let shown : (n : ℕ) → flat_map (text_in_file n) new ≡ flat_map (text_in_file n) parts ++ text_in_file n part =
    λ n. ap (flat_map (text_in_file n)) grown ∙ text_more (text_in_file n) parts part in
    let of_others : (n : ℕ) → (n ≡ count → ⊥) → flat_map (text_in_file n) new ≡ flat_map (text_in_file n) parts =
    λ n differs. shown n ∙ ap (λ t. flat_map (text_in_file n) parts ++ t) (other_file n count part number differs) ∙ append-nil (flat_map (text_in_file n) parts) in
    let others : AreEachWholeBefore files new count =
    λ n file within is. of_others n (λ same. absurd (omega (arith, same, within))) ∙ u.before n file within is in
    let own : flat_map (text_in_file count) new ≡ text_of_file (get_or files count d) =
    shown count ∙ ap (λ t. t ++ text_in_file count part) (u.behind count (omega arith)) ∙ own_file count part number ∙ text in
    record {
      before = each_more files new count d below others own;
      behind = λ n past. of_others n (λ same. absurd (omega (arith, same, past))) ∙ u.behind n (omega (arith, past));
      no_other = subst (All (λ p. p.file < length files)) (sym grown) (All-push (λ p. p.file < length files) parts part u.no_other
          (subst (λ n. n < length files) (sym number) below));
    }
