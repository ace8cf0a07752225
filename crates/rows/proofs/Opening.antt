-- All cells are emptied, one by one.
use Rattle.std.proofs.Common.{◌≡◌, ℕ, ◌+◌, ◌<◌, cond, eqb, ◌≢◌, [], length, None, refl, ap, ◌∙◌, arith}
use Rattle.std.specs.List.{AllByRecursion}
use Rattle.std.proofs.lemmas.List.{length_push}
use Rattle.std.proofs.ByRecursion.{All-push, All-weaker}
use Rattle.std.proofs.lemmas.Bool.{cond-true, cond_both, eq-eqb}
use Rattle.chains.specs.Orders.{Misses}
use Rattle.chains.specs.declared.cell.Chain.TheVariants.{Ring, Cold, Test, Free}
use Rattle.chains.specs.Shape.{Shape, pushed, stored}
use Rattle.rows.specs.Rows.{Linked}
use Rattle.rows.specs.declared.Counts.{Counts}
use Rattle.records.specs.declared.entry.Entry.{Entry}

-- the first k cells are emptied
pub record Emptied {K : Type 0} (s : Shape (Entry K)) (k : ℕ) : Type 0 where
  pub ring : s.order Ring ≡ []
  pub cold : s.order Cold ≡ []
  pub test : s.order Test ≡ []
  pub vacant : AllByRecursion (λ j. s.entry j ≡ None) (s.order Free)
  pub below : AllByRecursion (λ j. j < k) (s.order Free)
  pub many : length (s.order Free) ≡ k

module _ {K : Type 0} (s : Shape (Entry K)) (k : ℕ) (e : Emptied s k) where
  pub next_free : Misses k (s.order Free)
  next_free = All-weaker (λ j. j < k) (λ j. j ≢ k) (λ j l q. omega arith) (s.order Free) e.below

  pub one_more : Emptied (pushed Free k (stored k None s)) (k + 1)
  one_more = record {
    ring = e.ring;
    cold = e.cold;
    test = e.test;
    vacant = All-push (λ j. cond (eqb j k) None (s.entry j) ≡ None) (s.order Free) k
        (All-weaker (λ j. s.entry j ≡ None) (λ j. cond (eqb j k) None (s.entry j) ≡ None) (λ j h. cond_both (eqb j k) None (s.entry j) (λ o. o ≡ None) (λ _. refl) (λ _. h)) (s.order Free) e.vacant)
        (cond-true (eqb k k) None (s.entry k) (eq-eqb k k refl));
    below = All-push (λ j. j < k + 1) (s.order Free) k (All-weaker (λ j. j < k) (λ j. j < k + 1) (λ j l. omega arith) (s.order Free) e.below) (omega arith);
    many = length_push (s.order Free) k ∙ ap (λ n. n + 1) e.many;
  }

  pub all_empty : s.size ≡ k → (n : Counts) → (n.hots ≡ 0) × ((n.past ≡ 0) × (n.idles ≡ 0)) → Linked n s []
  all_empty h n z = record
      { ring = e.ring; cold = e.cold; test = e.test; entries = tt; vacant = e.vacant; full = omega (arith, e.many); warm = z.0; left = z.1.0; unlents = z.1.1; directory = tt }
