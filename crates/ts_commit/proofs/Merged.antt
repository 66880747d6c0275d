-- The name of a `.vac` with a text in it tells which fragment the text spells.
use Rattle.std.proofs.Common.{◌≡◌, List, ℕ, ◌++◌, codes, Option, Some, None, IfSome, refl, sym, ap}
use Rattle.ts_base.specs.declared.keys.FragKey.{FragKey}
use Rattle.ts_base.specs.declared.names.CommitKind.TheVariants as kind
use Rattle.ts_base.specs.declared.names.Name.{Name}
use Rattle.ts_base.specs.declared.names.Name.TheVariants as name
use Rattle.ts_base.specs.Names.{IsSpelled}
use Rattle.ts_base.specs.Spelling.{name_text, FitsFrag}
use Rattle.ts_commit.specs.Vacs.{IsFragText, frag_in, merged_in}
use Rattle.ts_commit.proofs.FragTexts.{frag_in-only, frag_in-found, text_between}

module _ (text : List ℕ) (found : Option Name) (spells : IfSome found (λ n. IsSpelled n × ((codes "__commits/" ++ text) ++ codes ".vac" ≡ name_text n)))
    (every : (f : FragKey) → IsFragText f text → found ≡ Some (name.Commit f kind.Vac)) where
  -- where none was found the text spells no fragment
  none_there : merged_in found ≡ None → frag_in text ≡ None
  none_there none = by (frag_in text) refl
    where
      by : (o : Option FragKey) → frag_in text ≡ o → o ≡ None
      by None is = refl
      by (Some f) is = let there = ap merged_in (every f (frag_in-found f text is)) in cc

pub frag_is : (text : List ℕ) (found : Option Name) → IfSome found (λ n. IsSpelled n × ((codes "__commits/" ++ text) ++ codes ".vac" ≡ name_text n))
    → ((f : FragKey) → IsFragText f text → found ≡ Some (name.Commit f kind.Vac)) → IfSome (merged_in found) FitsFrag → merged_in found ≡ frag_in text
frag_is text (Some (name.Commit f kind.Vac)) spells every fits = sym (frag_in-only f text (record { spelled = spells.0.0; fits = fits; same = text_between text f spells.1 }))
frag_is text (Some name.Domain) spells every fits = sym (none_there text (Some name.Domain) spells every refl)
frag_is text (Some (name.Schema k)) spells every fits = sym (none_there text (Some (name.Schema k)) spells every refl)
frag_is text (Some (name.Part f p)) spells every fits = sym (none_there text (Some (name.Part f p)) spells every refl)
frag_is text (Some (name.Lease k m)) spells every fits = sym (none_there text (Some (name.Lease k m)) spells every refl)
frag_is text (Some (name.Commit f kind.Wrt)) spells every fits = sym (none_there text (Some (name.Commit f kind.Wrt)) spells every refl)
frag_is text (Some (name.Commit f kind.Del)) spells every fits = sym (none_there text (Some (name.Commit f kind.Del)) spells every refl)
frag_is text None spells every fits = sym (none_there text None spells every refl)
