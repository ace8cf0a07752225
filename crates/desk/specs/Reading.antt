-- How the values of the code are read as those of the desk's model.
--   ask_in, order_in    what is asked for
--   reply_in           what is replied: an answer of the pool, or none where no call was made
--   hands_in           the hands
--   desk_of            what is lent to a call, with the hands, as one desk
use Rattle.std.specs.Prelude.{ℕ, List, map, Some, None, vec_items, Option}
use Rattle.promise.specs.Serves as model
use Rattle.promise.specs.Desk as desk
use Rattle.pool.specs.Asked.{Holding, state}
use Rattle.pool.specs.Faults.{denial}
use Rattle.pool.specs.Reading.{loan_in, report_in}
use Rattle.pool.specs.declared.state.Loan.{Loan}
use Rattle.desk.specs.declared.orders.Ask.{Ask}
use Rattle.desk.specs.declared.orders.Ask.TheVariants.{Borrow, View, Alter, Return, Flush}
use Rattle.desk.specs.declared.orders.Sizes.{Sizes}
use Rattle.desk.specs.declared.orders.Order.{Order}
use Rattle.desk.specs.declared.orders.Reply.{Reply}
use Rattle.desk.specs.declared.orders.Reply.TheVariants.{Lent, Shown, Done, Wrote, Refused, NoLoan}

abbrev pub ask_in : {K : Type 0} → (K → List ℕ) → Ask K → desk.Ask
ask_in meaning (Borrow k) = desk.ask_borrow (meaning k)
ask_in meaning (View hand) = desk.ask_view hand.0
ask_in meaning (Alter hand offset bytes) = desk.ask_alter hand.0 offset (vec_items bytes)
ask_in meaning (Return hand) = desk.ask_return hand.0
ask_in meaning Flush = desk.ask_flush

abbrev pub sizes_in : Option Sizes → Option desk.Sizes
sizes_in None = None
sizes_in (Some z) = Some (record { bytes = z.bytes; cells = z.cells })

abbrev pub order_in : {K : Type 0} → (K → List ℕ) → Order K → desk.Order
order_in meaning o = record { ask = ask_in meaning o.ask; lent = sizes_in o.lent }

abbrev pub reply_in : {K : Type 0} → (K → List ℕ) → Reply K → Option model.Answer
reply_in meaning (Lent l) = Some (model.lends (model.loan_of l.frame.0 l.pool.0) (report_in meaning l.report))
reply_in meaning (Shown page) = Some (model.shows (vec_items page))
reply_in meaning Done = Some model.done
reply_in meaning (Wrote n) = Some (model.wrote n)
reply_in meaning (Refused f) = Some (denial f)
reply_in meaning NoLoan = None

abbrev pub hand_in : Option Loan → Option model.Loan
hand_in None = None
hand_in (Some l) = Some (loan_in l)

abbrev pub hands_in : List (Option Loan) → List (Option model.Loan)
hands_in hands = map hand_in hands

abbrev pub desk_of : {K : Type 0} → (K → List ℕ) → Holding K → List (Option Loan) → desk.Desk
desk_of meaning h hands = desk.desk (state meaning h) (hands_in hands)
