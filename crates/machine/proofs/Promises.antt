-- The laws, put together as the contracts state them.
use Rattle.std.proofs.Common.{suc, ◌+◌, None, arith}
use Rattle.machine.specs.Entry.{has_bit, marked, count}
use Rattle.machine.specs.Laws.{OneResult, Ends, Standing, Refusals, Paid, Table, Pages, Exact}
use Rattle.machine.proofs.Work.{work}
use Rattle.machine.proofs.Eased.{hot_eased, test_eased, promote_eased, retest_eased}
use Rattle.machine.proofs.Runs.{hot_run_only, test_run_only, hot_ends, test_ends}
use Rattle.machine.proofs.Cold.{cold_run_only, cold_run_sent, cold_ends, evict_mid, evict_names}
use Rattle.machine.proofs.Calls.{opened_well, borrow_kept, recalled_eased, grown_mid, enter_mid}
use Rattle.machine.proofs.Laws.{return_kept, mark_kept, steps_paid, calls_kept, counters_fit, tests_small, borrow_ends, borrow_only, eleven_only, ten_only, refusals_two, victim_found, borrow_pages, refusal_alters_nothing, length_fits}
use Rattle.machine.proofs.Evaluate.{table-holds, eval_borrow-found}
use Rattle.machine.proofs.Exact.{eval_borrow_gives}

pub one-result : OneResult
one-result = record {
  hot = λ m s t u n k a b. hot_run_only m a b;
  test = λ m s t u n k a b. test_run_only m a b;
  cold = λ m s t u n k v w a b. let o = cold_run_only m a b in (o.made, o.sent, o.after);
  borrow = λ m k s t u a b x y. borrow_only m k x y;
}

pub runs_end : Ends
runs_end = record {
  hot = λ m g s w. hot_ends m (suc (work s.ring)) g s w (omega arith);
  test = λ m g s w. test_ends m (suc (count has_bit s.ring + count marked s.ring)) g s w (omega arith);
  cold = λ m s w i. cold_ends m (suc (work s.ring)) s w i (omega arith);
  borrow = borrow_ends;
  fits = λ m k s t a h w b. (counters_fit m k h b w, tests_small m k h b w);
}

pub standing : Standing
standing = record {
  opening = opened_well;
  borrow = λ m k s t a w b. (borrow_kept m k b w).well;
  giving_back = λ m f s w. (return_kept m f s w).well;
  marking_page = λ m f b s w. (mark_kept m f b s w).well;
  reached = λ m xs s h c. (calls_kept m c (opened_well m h)).well;
  at_hot_step = λ m g s w. (hot_eased m s).mids g w;
  at_test_step = λ m g s e w h. (test_eased m s e h).mids g w;
  promoting = λ m g s e w h. (promote_eased m s e h).mids g w;
  retesting = λ m g s e w h b. (retest_eased m s e h b).mids g w;
  evicting = λ m f s e w h k. evict_mid m f s e w h k;
  recalling = λ m k s e w h f. (recalled_eased m k s e h f).mids None w;
  growing = grown_mid;
  entering = enter_mid;
  no_new_key = record {
    at_hot_step = λ s k. (hot_eased 0 s).names k;
    at_test_step = λ s e k h. (test_eased 0 s e h).names k;
    promoting = λ m s e k h. (promote_eased m s e h).names k;
    retesting = λ s e k h b. (retest_eased 0 s e h b).names k;
    evicting = λ s e k h. evict_names s e k h;
  };
  size = length_fits;
}

pub refusals : Refusals
refusals = record { two = refusals_two; eleven = eleven_only; ten = ten_only; found = victim_found; victim = λ m s t n v w i r. (cold_run_sent m r w i).unlent }

pub paid : Paid
paid = record {
  colds = λ m xs t h c. (steps_paid m xs t h c).0;
  tests = λ m xs t h c. (steps_paid m xs t h c).1;
  colds_each = λ m k s t a w b. (borrow_kept m k b w).colds_fit;
  tests_each = λ m k s t a w b. (borrow_kept m k b w).tests_fit;
}

pub table' : Table
table' = table-holds

pub pages : Pages
pages = record { granting = λ m k s t f r w b. borrow_pages m k b w; refusing = λ m k s t n b. refusal_alters_nothing m k b }

pub exact : Exact
exact = record { so = eval_borrow-found; all = λ m fuel k s t a b h. eval_borrow_gives m fuel k b h }
