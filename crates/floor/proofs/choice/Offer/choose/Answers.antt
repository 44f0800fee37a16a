use Rattle.std.proofs.Common.{◌≡◌, ℕ, suc, ◌+◌, ◌∷◌, take, drop, length, get_or, sym, ap, ◌∙◌, subst, drop-cons, arith}
use Rattle.floor.specs.Offers.{price_in, seats_in}
use Rattle.floor.specs.Seats.{seats_on}
use Rattle.floor.proofs.Chosen.{SoFar, so_first, so_more}
use Rattle.floor.proofs.Defaults.{no_row}
use Rattle.floor.proofs.Listed.{standing_at}
use Rattle.floor.proofs.Ready.{offered}
use Rattle.floor.proofs.Walked.{InStep, begins_in_step}
use Rattle.floor.proofs.choice.Offer.choose.Goals as goal

suc-is : (i : ℕ) → suc i ≡ i + 1
suc-is i = omega arith

pub loop-row-init : goal.loop-row-init
loop-row-init g c =
    let offer = c.args.self.now in
    record {
      in_step = subst (InStep (seats_in offer) offer.rows.now) (sym c.as_slice-ahead.ensures) (begins_in_step offer.rows.now (seats_in offer) offer.well);
      so_far = so_first (price_in offer) (seats_in offer) offer.cell offer.rows.now c.args.kept.now.items;
    }

pub invariant_of-own : goal.invariant_of-own
invariant_of-own g c =
    let offer = c.args.self.now in
    let rows = offer.rows.now in
    let seats = seats_in offer in
    let i = c.loop-row.row-index in
    let row = get_or rows i no_row in
    let left : drop i rows ≡ row ∷ drop (i + 1) rows = drop-cons rows i no_row c.loop-row-test.true ∙ ap (λ n. row ∷ drop n rows) (suc-is i) in
    let steps = subst (λ l. InStep seats l c.loop-row.ahead.now) left c.loop-row.invariant.in_step in
    let own : c.split_at.result.0.now ≡ seats_on row seats = c.split_at.ensures.front ∙ ap (λ n. take n c.loop-row.ahead.now) c.count_on.ensures.value ∙ steps.0 in
    let known = offered rows seats offer.cell offer.well offer.free row (standing_at rows i no_row c.loop-row-test.true) in
    let few = known.few in
    let long = ap length own in
    record { few = omega arith; some = known.some; own = own; ready = known.ready }

pub loop-row-preserved : goal.loop-row-preserved
loop-row-preserved g c =
    let offer = c.args.self.now in
    let rows = offer.rows.now in
    let seats = seats_in offer in
    let i = c.loop-row.row-index in
    let row = get_or rows i no_row in
    let left : drop i rows ≡ row ∷ drop (i + 1) rows = drop-cons rows i no_row c.loop-row-test.true ∙ ap (λ n. row ∷ drop n rows) (suc-is i) in
    let steps = subst (λ l. InStep seats l c.loop-row.ahead.now) left c.loop-row.invariant.in_step in
    let rest = c.split_at.ensures.back ∙ ap (λ n. drop n c.loop-row.ahead.now) c.count_on.ensures.value in
    record {
      in_step = subst (InStep seats (drop (i + 1) rows)) (sym rest) steps.1;
      so_far = so_more (price_in offer) seats offer.cell rows row (drop (i + 1) rows) c.loop-row.best c.better-best.result c.loop-row.kept.items c.better-best.new.kept.items
          (subst (λ l. SoFar (price_in offer) seats offer.cell rows l c.loop-row.best c.loop-row.kept.items) left c.loop-row.invariant.so_far)
          c.better-best.ensures.better c.better-best.ensures.kept;
    }
