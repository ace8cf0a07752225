-- A list of orders: what was played so far, and one order more.
use Rattle.std.proofs.Common.{◌≡◌, ℕ, ◌+◌, ◌<◌, List, [], ◌∷◌, ◌++◌, map, length, take, get_or, Option, sym, refl, ap, ◌∙◌, subst, arith}
use Rattle.std.proofs.lemmas.List.{take_more, map-append, length-append}
use Rattle.promise.specs.Book.{Event}
use Rattle.promise.specs.Serves.{Answer}
use Rattle.promise.specs.Desk as model
use Rattle.promise.specs.Desk.{Desk, Plays, rests, idles, calls}
use Rattle.promise.proofs.Desks.{whole_of}
use Rattle.desk.specs.declared.orders.Order.{Order}
use Rattle.desk.specs.declared.orders.Reply.{Reply}
use Rattle.desk.specs.Reading.{order_in, reply_in}
use Rattle.desk.specs.Serving.{Ordered, Served}

pub plays_append : {d x y : Desk} {os ps : List model.Order} {ans bns : List (Option Answer)} {es fs : List Event} →
    Plays d os ans es x → Plays x ps bns fs y → Plays d (os ++ ps) (ans ++ bns) (es ++ fs) y
plays_append rests q = q
plays_append (idles h p) q = idles h (plays_append p q)
plays_append (calls h s p) q = calls h s (plays_append p q)

-- the first i orders had these replies
pub record Played {K : Type 0} (meaning : K → List ℕ) (before : Desk) (orders : List (Order K)) (i : ℕ) (replies : List (Reply K)) (now : Desk) : Type 0 where
  pub count : length replies ≡ i
  pub events : List Event
  pub plays : Plays before (map (order_in meaning) (take i orders)) (map (reply_in meaning) replies) events now

pub played_none : {K : Type 0} (meaning : K → List ℕ) (d : Desk) (orders : List (Order K)) (replies : List (Reply K)) → replies ≡ [] → Played meaning d orders 0 replies d
played_none meaning d orders replies e = record { count = ap length e; events = []; plays = subst (λ rs. Plays d [] (map (reply_in meaning) rs) [] d) (sym e) rests }

pub played_more : {K : Type 0} (meaning : K → List ℕ) (d x y : Desk) (orders : List (Order K)) (i : ℕ) (replies : List (Reply K)) (o : Order K) (r : Reply K) →
    Played meaning d orders i replies x → i < length orders → o ≡ get_or orders i o → Ordered meaning o x r y → Played meaning d orders (i + 1) (replies ++ r ∷ []) y
played_more meaning d x y orders i replies o r p h e q =
    let E = ap (map (order_in meaning)) (take_more orders i o h) ∙ map-append (order_in meaning) (take i orders) (get_or orders i o ∷ [])
    ∙ ap (λ z. map (order_in meaning) (take i orders) ++ (order_in meaning z ∷ [])) (sym e) in
    record {
      count = length-append replies (r ∷ []) ∙ ap (λ n. n + 1) p.count;
      events = p.events ++ q.events;
      plays = subst (λ os. Plays d os (map (reply_in meaning) (replies ++ r ∷ [])) (p.events ++ q.events) y) (sym E)
          (subst (λ ans. Plays d (map (order_in meaning) (take i orders) ++ (order_in meaning o ∷ [])) ans (p.events ++ q.events) y) (sym (map-append (reply_in meaning) replies (r ∷ [])))
          (plays_append p.plays q.plays));
    }

pub served_of : {K : Type 0} (meaning : K → List ℕ) (d x : Desk) (orders : List (Order K)) (i : ℕ) (replies : List (Reply K)) → Played meaning d orders i replies x → Served meaning orders d replies x
served_of meaning d x orders i replies p =
    subst (λ n. model.Whole d (map (order_in meaning) (take n orders)) (map (reply_in meaning) replies) x) (sym p.count) (whole_of p.plays)
