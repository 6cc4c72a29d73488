use Rattle.std.proofs.Common.{length, Err, ap, ◌∙◌, subst, arith}
use Rattle.std.proofs.lemmas.Result.{err_from_is_err_and}
use Rattle.listing.specs.Listings.{Listing}
use Rattle.listing.specs.Graphs.{stated}
use Rattle.layout.specs.Layouts.{starts_of, entries_of, laid}
use Rattle.layout.specs.declared.fault.LayoutFault.TheVariants.{Check, ShortStarts, ShortEntries}
use Rattle.layout.proofs.Answering.{fault_check, fault_starts, fault_entries, no_fault, refused, made}
use Rattle.layout.proofs.Refills.{refilled_from}
use Rattle.layout.proofs.layout.layout.Goals as goal
use Rattle.layout.proofs.layout.layout.Goals.{After-counts-counts}

-- accepted words are a listing
listed : (c : After-counts-counts) → Listing c.args.words.now c.counts-counts.result
listed c = subst (λ ws. Listing ws c.counts-counts.result) c.in_ok-listing.ensures.holds c.counts-counts.ensures.listed

pub returns-in_err-listing : goal.returns-in_err-listing
returns-in_err-listing c =
    let ws = c.args.words.now in
    let ss = c.args.starts.now in
    let es = c.args.entries.now in
    let p = err_from_is_err_and c.from_residual.result c.from_residual.ensures.1 in
    let fault = c.in_err-listing.field-0.0 in
    let r = refused ws ss es (Check fault) (fault_check ws ss es fault c.in_err-listing.ensures.answer) in
    record { answer = p.1 ∙ ap Err p.2 ∙ r.0; starts = r.1; entries = r.2; means = rw p.1 tt }

pub returns-then-starts-counts : goal.returns-then-starts-counts
returns-then-starts-counts c =
    let ws = c.args.words.now in
    let ss = c.args.starts.now in
    let es = c.args.entries.now in
    let l = listed (goal.at.returns-then-starts-counts c).After-counts-counts in
    let r = refused ws ss es ShortStarts (fault_starts ws ss es c.counts-counts.result l (omega arith)) in
    record { answer = r.0; starts = r.1; entries = r.2; means = tt }

pub returns-then-entries-pairs : goal.returns-then-entries-pairs
returns-then-entries-pairs c =
    let ws = c.args.words.now in
    let ss = c.args.starts.now in
    let es = c.args.entries.now in
    let l = listed (goal.at.returns-then-entries-pairs c).After-counts-counts in
    let same = c.in_ok-listing.ensures.holds in
    let n = c.count_pairs-pairs.ensures ∙ ap (λ vs. length (entries_of (stated vs))) same in
    let r = refused ws ss es ShortEntries (fault_entries ws ss es c.counts-counts.result l (omega arith) (omega arith)) in
    record { answer = r.0; starts = r.1; entries = r.2; means = tt }

pub returns : goal.returns
returns c =
    let ws = c.args.words.now in
    let ss = c.args.starts.now in
    let es = c.args.entries.now in
    let l = listed (goal.at.returns c).After-counts-counts in
    let same = c.in_ok-listing.ensures.holds in
    let n = c.count_pairs-pairs.ensures ∙ ap (λ vs. length (entries_of (stated vs))) same in
    let new_starts = c.write_starts.ensures ∙ ap (λ vs. laid (starts_of (stated vs)) ss) same in
    let new_entries = c.write_entries.ensures ∙ ap (λ vs. laid (entries_of (stated vs)) es) same in
    let m = made ws ss es c.count_pairs-pairs.result n (no_fault ws ss es c.counts-counts.result l (omega arith) (omega arith)) in
    record {
      answer = m.0;
      starts = new_starts ∙ m.1;
      entries = new_entries ∙ m.2;
      means = refilled_from ws c.counts-counts.result l ss es _ _ c.count_pairs-pairs.result new_starts new_entries n;
    }
