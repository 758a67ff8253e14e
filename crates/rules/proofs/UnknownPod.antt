-- What rows 5 and 6 take where the carrier isn't placed: an unknown pod, for a carrier that is untied.
use mathlib.Core.Path.{◌≡◌, refl}
use mathlib.Core.Bool.{Bool, true, false, not, ◌&&◌, ◌||◌}
use borrow.Author.Tests.{eqb-true}
use Rattle.lists.proofs.Bools.{and_l, and_r, or_other, not_true}
use Rattle.records.specs.Ports.{idle, has_pod, tag_failed}
use Rattle.records.specs.Carriers.{untied}
use Rattle.rules.specs.declared.row.Seen.{Seen}
use Rattle.rules.specs.Row.{placed, unknown_pod}
use Rattle.rules.specs.Verdict.{takes_unknown_pod}

module _ (x : Seen) where
  pub record Pod : Type 0 where
    pub port : x.isport ≡ true
    pub present : has_pod x.here ≡ true
    pub unreadable : tag_failed x.here ≡ true
    pub still : idle x.here ≡ true
    pub free : x.tied ≡ false

  unknown_pod_fact : unknown_pod x ≡ true → Pod
  unfolding unknown_pod
  unknown_pod_fact e = record {
    port = search (and_l, and_r) depth 6;
    present = search (and_l, and_r) depth 6;
    unreadable = search (and_l, and_r) depth 6;
    still = search (and_l, and_r) depth 6;
    free = not_true x.tied (and_r (x.isport && has_pod x.here && idle x.here && tag_failed x.here) _ e);
  }

  takes : (not x.known || placed x || takes_unknown_pod x) ≡ true → placed x ≡ false → x.known ≡ true → takes_unknown_pod x ≡ true
  takes b n u = or_other (not x.known || placed x) _ b (rw (n, u))

  pub pod_there : (x.known || unknown_pod x) ≡ true → (not x.known || placed x || takes_unknown_pod x) ≡ true → placed x ≡ false → Pod
  unfolding takes_unknown_pod
  pod_there a b n = go x.known refl
    where
      go : (w : Bool) → x.known ≡ w → Pod
      go true u = unknown_pod_fact (and_r (untied x.found) (unknown_pod x) (takes b n u))
      go false u = unknown_pod_fact (or_other x.known (unknown_pod x) a u)

  pub found_untied : (not x.known || placed x || takes_unknown_pod x) ≡ true → placed x ≡ false → x.known ≡ true → x.found.port ≡ 0
  unfolding takes_unknown_pod
  found_untied b n u = eqb-true x.found.port 0 (and_l _ _ (takes b n u))
