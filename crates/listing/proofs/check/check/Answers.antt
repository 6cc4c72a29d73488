use Rattle.std.proofs.Common.{is_some, Ok, Err, sym, ap, ◌∙◌, arith}
use Rattle.std.specs.List.{find}
use Rattle.std.proofs.lemmas.Result.{err_from_is_err_and}
use Rattle.listing.specs.Faults.{fits, opening_faults, answered}
use Rattle.listing.specs.Listings.{counts_of}
use Rattle.listing.proofs.Verdicts.{first_from_end, first_from_next, first_from_found, answered_some, verdict-at_opening, verdict-after, Opened, opened}
use Rattle.listing.proofs.Checked.{checked}
use Rattle.listing.proofs.check.check.Goals as goal
use Rattle.listing.proofs.check.check.Goals.{In_ok-counts}

-- what the accepted opening tells of the words
told : (c : In_ok-counts) → Opened c.args.words.now c.in_ok-counts.counts
told c = opened _ _ (sym c.in_ok-counts.was ∙ c.check_opening.ensures)

pub returns-in_err-counts : goal.returns-in_err-counts
returns-in_err-counts c =
    let ws = c.args.words.now in
    let p = err_from_is_err_and c.from_residual.result c.from_residual.ensures.1 in
    let first = answered_some (counts_of ws) (find (fits ws) opening_faults) c.in_err-counts.field-0.0 (sym c.in_err-counts.was ∙ c.check_opening.ensures) in
    checked ws c.from_residual.result (p.1 ∙ ap Err p.2 ∙ sym (verdict-at_opening ws c.in_err-counts.field-0.0 first))

pub returns-then-place-words : goal.returns-then-place-words
returns-then-place-words c =
    let ws = c.args.words.now in
    let o = told (goal.at.returns-then-place-words c).In_ok-counts in
    let none = sym c.places.invariant.2 ∙ first_from_end ws c.places.place c.if-place-words.true in
    checked ws (Ok c.in_ok-counts.counts) (sym (verdict-after ws o.none ∙ ap (answered (counts_of ws)) none ∙ ap Ok (sym o.counted)))

pub places-preserved : goal.places-preserved
places-preserved c = (omega arith, omega arith, first_from_next c.args.words.now c.places.place (omega arith) (ap is_some (sym c.fault_at.ensures) ∙ sym c.is_some.ensures ∙ c.if-is_some.false) ∙ c.places.invariant.2)

pub fault_at-requires-2 : goal.fault_at-requires-2
fault_at-requires-2 c =
    let o = told (goal.at.fault_at-requires-2 c).In_ok-counts in
    record { inside = record { counted = o.counted; whole = o.whole; after = c.places.invariant.0; within = omega arith } }

pub returns : goal.returns
returns c =
    let ws = c.args.words.now in
    let o = told (goal.at.returns c).In_ok-counts in
    let p = c.places.place in
    let first = sym c.places.invariant.2 ∙ first_from_found ws p c.unwrap.result (omega arith) (sym c.fault_at-2.ensures ∙ c.unwrap.ensures) in
    checked ws (Err c.unwrap.result) (sym (verdict-after ws o.none ∙ ap (answered (counts_of ws)) first))
