-- Parts of a report, one after another.
use Rattle.std.proofs.Common.{◌≡◌, ◌∙◌, ◌++◌, ◌∷◌, [], ℕ, List, ap, refl, inr, append_assoc, append-nil, codes}
use Rattle.std.specs.Fmt.{decimal}
use Rattle.glslpp_parts.specs.declared.report.Style.{Style}
use Rattle.glslpp_parts.specs.declared.diagnostic.Severity.{Severity}
use Rattle.glslpp_parts.specs.Reports.{bold, severity_text, IsReported}
use Rattle.glslpp_parts.specs.inner.Adding.{IsLonger, IsPlaced}

pub placed_at : (file old new : List ℕ) (line column : ℕ)
    → new ≡ old ++ (file ++ (codes ":" ++ (decimal line ++ (codes ":" ++ (decimal column ++ codes ": ")))))
    → IsPlaced file old new
placed_at file old new line column e = record {
  place = file ++ codes ":" ++ decimal line ++ codes ":" ++ decimal column ++ codes ": ";
  is = inr (inr (line, (column, refl)));
  text = e ∙ simp append_assoc;
}

module _ (style : Style) (file : List ℕ) (severity : Severity) (message : List ℕ) where
  -- the parts of a report, from what was there to the whole
  pub reported : (old bolded placed kinded new after : List ℕ) → bolded ≡ old ++ bold style → IsPlaced file bolded placed
      → kinded ≡ placed ++ severity_text style severity → new ≡ kinded ++ (message ++ 10 ∷ after) → IsReported style file severity message old new
  reported old bolded placed kinded new after e at f g = record {
    place = at.place;
    more = [];
    after = after;
    is = at.is;
    text = g ∙ ap (λ (t : List ℕ). t ++ (message ++ 10 ∷ after))
        (f ∙ ap (λ (t : List ℕ). t ++ severity_text style severity) (at.text ∙ ap (λ (t : List ℕ). t ++ at.place) e))
        ∙ simp (append_assoc, append-nil);
  }

  -- with more after the report
  pub reported_on : (old mid new : List ℕ) → IsReported style file severity message old mid → IsLonger mid new
      → IsReported style file severity message old new
  reported_on old mid new report longer = record {
    place = report.place;
    more = report.more;
    after = report.after ++ longer.more;
    is = report.is;
    text = longer.text ∙ ap (λ (t : List ℕ). t ++ longer.more) report.text ∙ append_assoc _ (10 ∷ report.after) longer.more;
  }

  -- a report stands after what was there
  pub longer_by : (old new : List ℕ) → IsReported style file severity message old new → IsLonger old new
  longer_by old new report = record {
    more = bold style ++ (report.place ++ (severity_text style severity ++ (message ++ (report.more ++ 10 ∷ report.after))));
    text = report.text ∙ simp append_assoc;
  }

  -- a report of a message that begins with a sentence
  pub reported_by : (sentence rest old new : List ℕ) → message ≡ sentence ++ rest → IsReported style file severity message old new
      → IsReported style file severity sentence old new
  reported_by sentence rest old new e report = record {
    place = report.place;
    more = rest ++ report.more;
    after = report.after;
    is = report.is;
    text = report.text
        ∙ ap (λ (t : List ℕ). old ++ bold style ++ report.place ++ severity_text style severity ++ t ++ report.more ++ 10 ∷ report.after) e
        ∙ simp append_assoc;
  }
