-- The machine as a function, for samples and tests. Nothing of the rules rests on it: it is proved to give what the
-- relations say. The fuel bounds the steps; `None` means that it has run out.
-- In each function the answer to what is asked stands last, as an argument.
--   eval_hot, eval_test, eval_cold, eval_room   the runs, and the frame for a fault
--   eval_borrow                              a borrow
--   eval_row, expected                       what a row of the sample runs comes to, and what the table says
use Rattle.std.specs.Prelude.{ℕ, zero, suc, Bool, true, false, List, [], ◌∷◌, map, Some, None, Option, nat_lt}
use Rattle.machine.specs.Entry.{Entry, named, free, first}
use Rattle.machine.specs.Hands.{Machine, opened, hot_step, test_step, promote, retest, evict, too_hot, too_many, Steps, steps, plus}
use Rattle.machine.specs.Borrow.{Answer, granted, refused, a_hit, a_test_fault, a_cold_fault, refusal, hit, recalled, enter, grown, key_of, give_back}
use Rattle.machine.specs.Rows.{Word, once, keep, back, page, Reply, reply, Seen, seen, Row}

abbrev pub onward : {A B : Type 0} → (A → Option B) → Option A → Option B
onward f None = None
onward f (Some a) = f a

-- A hot run and a test run: the steps made, and the state after.
pub record Ran : Type 0 where
  pub made : ℕ
  pub after : Machine

abbrev pub bumped : Ran → Option Ran
bumped r = Some (record { made = suc r.made; after = r.after })

abbrev pub hot_at : Machine → (Machine → Option Ran) → Bool → Option Ran
hot_at s rec false = Some (record { made = 0; after = s })
hot_at s rec true = onward bumped (rec (hot_step s))

abbrev pub eval_hot : ℕ → ℕ → Machine → Option Ran
eval_hot m zero s = None
eval_hot m (suc fuel) s = hot_at s (λ x. eval_hot m fuel x) (too_hot m s)

abbrev pub test_at : Machine → (Machine → Option Ran) → Bool → Option Ran
test_at s rec false = Some (record { made = 0; after = s })
test_at s rec true = onward bumped (rec (test_step s))

abbrev pub eval_test : ℕ → ℕ → Machine → Option Ran
eval_test m zero s = None
eval_test m (suc fuel) s = test_at s (λ x. eval_test m fuel x) (too_many m s)

-- A cold run: the steps, the victim, and the state after.
pub record Sent : Type 0 where
  pub made : Steps
  pub victim : Entry
  pub after : Machine

abbrev pub adding : ℕ → ℕ → Sent → Option Sent
adding c h r = Some (record { made = plus (steps c h 0) r.made; victim = r.victim; after = r.after })

abbrev pub sending : Entry → Ran → Option Sent
sending e r = Some (record { made = steps 1 0 r.made; victim = e; after = r.after })

-- the candidate, with its bit and its test mark
abbrev pub cold_by : ℕ → ℕ → Machine → (Machine → Option Sent) → Entry → Bool → Bool → Option Sent
cold_by m fuel s rec e true true = onward (λ r. onward (adding 1 r.made) (rec r.after)) (eval_hot m fuel (promote m e s))
cold_by m fuel s rec e true false = onward (adding 1 0) (rec (retest e s))
cold_by m fuel s rec e false d = onward (sending e) (eval_test m fuel (evict s))

abbrev pub cold_at : ℕ → ℕ → Machine → (Machine → Option Sent) → Option Entry → Option Sent
cold_at m fuel s rec None = onward (adding 0 1) (rec (hot_step s))
cold_at m fuel s rec (Some e) = cold_by m fuel s rec e e.bit e.test

abbrev pub eval_cold : ℕ → ℕ → Machine → Option Sent
eval_cold m zero s = None
eval_cold m (suc fuel) s = cold_at m fuel s (λ x. eval_cold m fuel x) (first free s.ring)

-- The frame for a fault.
pub record Roomy : Type 0 where
  pub frame : ℕ
  pub victim : Option Entry
  pub made : Steps
  pub after : Machine

abbrev pub frame_of : Sent → Option ℕ → Option Roomy
frame_of r None = None
frame_of r (Some f) = Some (record { frame = f; victim = Some r.victim; made = r.made; after = r.after })

abbrev pub room_at : ℕ → ℕ → Machine → Bool → Option Roomy
room_at m fuel s true = Some (record { frame = s.used; victim = None; made = steps 0 0 0; after = grown s })
room_at m fuel s false = onward (λ r. frame_of r r.victim.frame) (eval_cold m fuel s)

abbrev pub eval_room : ℕ → ℕ → Machine → Option Roomy
eval_room m fuel s = room_at m fuel s (nat_lt s.used m)

-- A borrow.
pub record Done : Type 0 where
  pub answer : Answer
  pub after : Machine

abbrev pub test_done : List ℕ → Roomy → Ran → Option Done
test_done k r h = Some (record { answer = granted r.frame (record { outcome = a_test_fault; victim = key_of r.victim; made = plus r.made (steps 0 h.made 0); cold = h.after.cold }); after = h.after })

abbrev pub testing : ℕ → ℕ → List ℕ → Roomy → Option Done
testing m fuel k r = onward (test_done k r) (eval_hot m fuel (enter k true r.frame r.after))

abbrev pub colding : List ℕ → Roomy → Option Done
colding k r = Some (record { answer = granted r.frame (record { outcome = a_cold_fault; victim = key_of r.victim; made = r.made; cold = r.after.cold }); after = enter k false r.frame r.after })

abbrev pub found_at : ℕ → ℕ → List ℕ → Machine → Option ℕ → Option Done
found_at m fuel k s (Some f) = Some (record { answer = granted f (record { outcome = a_hit; victim = None; made = steps 0 0 0; cold = s.cold }); after = hit k s })
found_at m fuel k s None = onward (testing m fuel k) (eval_room m fuel (recalled m k s))

abbrev pub sought : ℕ → ℕ → List ℕ → Machine → Option Entry → Option Done
sought m fuel k s (Some e) = found_at m fuel k s e.frame
sought m fuel k s None = onward (colding k) (eval_room m fuel s)

abbrev pub asked : ℕ → ℕ → List ℕ → Machine → Option ℕ → Option Done
asked m fuel k s (Some n) = Some (record { answer = refused n; after = s })
asked m fuel k s None = sought m fuel k s (first (named k) s.ring)

abbrev pub eval_borrow : ℕ → ℕ → List ℕ → Machine → Option Done
eval_borrow m fuel k s = asked m fuel k s (refusal m k s)

-- A row of the sample runs.
abbrev pub carried : Answer → Option ℕ
carried (granted f r) = Some f
carried (refused n) = None

abbrev pub eval_word : ℕ → ℕ → Word → Machine → Option Machine
eval_word m fuel (once n) s = onward (λ d. onward (λ f. Some (give_back f d.after)) (carried d.answer)) (eval_borrow m fuel (page n) s)
eval_word m fuel (keep n) s = onward (λ d. onward (λ f. Some d.after) (carried d.answer)) (eval_borrow m fuel (page n) s)
eval_word m fuel (back n) s = onward (λ e. onward (λ f. Some (give_back f s)) e.frame) (first (named (page n)) s.ring)

abbrev pub eval_play : ℕ → ℕ → List Word → Machine → Option Machine
eval_play m fuel [] s = Some s
eval_play m fuel (w ∷ ws) s = onward (eval_play m fuel ws) (eval_word m fuel w s)

pub record Outcomes : Type 0 where
  pub answer : Reply
  pub ring : List Seen

abbrev pub outcomes : Done → Option Outcomes
outcomes d = Some (record { answer = reply d.answer; ring = map seen d.after.ring })

abbrev pub eval_row : Row → Option Outcomes
eval_row r = onward (λ s. onward outcomes (eval_borrow r.m 50 (page r.last) s)) (eval_play r.m 50 r.run (opened r.m))

abbrev pub expected : Row → Option Outcomes
expected r = Some (record { answer = r.answer; ring = r.ring })
