-- Objects of JSON, each on a line of its own.
use Rattle.std.proofs.Common.{◌≡◌, ◌∙◌, ◌++◌, ℕ, List, Result, Ok, Err, OnOk, is_ok, if◌then◌else◌, ap, append_assoc, codes}
use Rattle.glslpp_parts.specs.Output.{IsItem, IsErrorItem}
use Rattle.glslpp_parts.specs.inner.Adding.{IsLonger}

-- what a push that may fail leaves, if it doesn't
pub pushed : {T E : Type 0} (result : Result T E) (new longer old : List ℕ) → new ≡ (if is_ok result then longer else old)
    → OnOk result (new ≡ longer)
pushed (Ok value) new longer old e = e
pushed (Err error) new longer old e = tt

pub longer_more : (a b c : List ℕ) → IsLonger a b → IsLonger b c → IsLonger a c
longer_more a b c h k = record {
  more = h.more ++ k.more;
  text = k.text ∙ ap (λ (t : List ℕ). t ++ k.more) h.text ∙ append_assoc a h.more k.more;
}

module _ (old begun ended new : List ℕ) (longer : IsLonger begun ended) (g : new ≡ ended ++ codes "}\n") where
  closed : (front : List ℕ) → begun ≡ old ++ front → new ≡ old ++ (front ++ (longer.more ++ codes "}\n"))
  closed front e =
      g ∙ ap (λ (t : List ℕ). t ++ codes "}\n") (longer.text ∙ ap (λ (t : List ℕ). t ++ longer.more) e) ∙ simp append_assoc

  -- an object from its brace to its end
  pub item_of : (first : List ℕ) → begun ≡ old ++ (codes "{" ++ first) → IsItem old new
  item_of first e = record {
    members = first ++ longer.more;
    text = closed (codes "{" ++ first) e ∙ simp append_assoc;
  }

  -- the object of an error
  pub error_item_of : (name shown first : List ℕ) → shown ≡ name
      → begun ≡ old ++ (codes "{\"kind\":\"error\",\"error\":\"" ++ (shown ++ (codes "\"," ++ first))) → IsErrorItem name old new
  error_item_of name shown first same e = record {
    members = first ++ longer.more;
    text = closed (codes "{\"kind\":\"error\",\"error\":\"" ++ (name ++ (codes "\"," ++ first))) (rw same at e) ∙ simp append_assoc;
  }
