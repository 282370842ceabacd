-- The words that the proofs of this crate and of those above it share, brought in from where they are defined.
pub use Rattle.std.proofs.Common.{◌≡◌, ℕ, ◌<◌, ◌≤◌, false, Option, None, Some, Ok, refl, arith, ◌+◌, Bool, true, not, List, []}
pub use Rattle.std.proofs.Common.{◌∷◌, length, filter, suc, ap, ◌≢◌, ◌++◌, ◌-◌, sym, inl, inr, subst, zero, map, ◌∙◌}
pub use Rattle.std.proofs.Common.{◌*◌, ◌&&◌, ◌^◌, get_or, cond, Err, length-append, append-nil, take, drop, ◌||◌, set}
pub use Rattle.std.proofs.Common.{get_or-set_same, get_or-set_other, length-set}
pub use Rattle.std.proofs.lemmas.Bool.{cond_both, cases_Bool, and_parts, ltb-true, and_from, le-leb}
pub use Rattle.std.proofs.lemmas.Bool.Decides.{nat_tests, eqb_tells}
pub use Rattle.std.proofs.lemmas.List.Elements.{filter-append}
pub use Rattle.std.specs.List.{AllByRecursion, range_with_len, fold}
pub use Rattle.std.specs.Option.{option_to_list}
pub use Rattle.std.specs.Prelude.{nat_le, nat_lt, if◌then◌else◌, ◌==◌, sum_by, slice_index_or, is_ok, option_map, sum}
pub use Rattle.book.specs.Answers.{answer_to, pair_of, has_id, is_not_open, lowest_of, refused_if}
pub use Rattle.book.specs.Book.{book_after, on_id, becomes, changed, pairs_after, last_id_after, accepted_after, fresh_book}
pub use Rattle.book.specs.Book.{book_after_all, today_after}
pub use Rattle.book.specs.Calls.{Answer, refusal_number}
pub use Rattle.book.specs.Figures.{settled_part, in_measure, none, place, add_cell, no_summary, post, post_summary, add_summary, summary_of, gains_at}
pub use Rattle.book.specs.Figures.{fail}
pub use Rattle.book.specs.Limits.{day_limit, largest_id, category_count, largest_amount, largest_code, cell_count, summary_count}
pub use Rattle.book.specs.Pairs.{entered, with_hold, with_lack, with_part, while_open, side_of, lack_of, kind_of}
pub use Rattle.book.specs.Postings.{is_first_part, is_failing, posting, late_fail, postings, part_posting, late_fails, fails_of}
pub use Rattle.book.specs.Rows.{row_answer, summary_at, row_of, figures_of, is_closed}
pub use Rattle.book.specs.Sides.{sides_at_close, sides_when_late}
pub use Rattle.book.specs.declared.book.Book.{Book}
pub use Rattle.book.specs.declared.calls.Call.{Call}
pub use Rattle.book.specs.declared.calls.Call.TheVariants.{Enter, Settle, Hold, Lack, Cancel, Close}
pub use Rattle.book.specs.declared.calls.Refusal.TheVariants.{NotClosed, Finished, OutOfRange, IdSpent, BookFull, NotOpen, NotDue, OnHold, WrongPart}
pub use Rattle.book.specs.declared.figures.Cell.{Cell}
pub use Rattle.book.specs.declared.figures.Measure.{Measure}
pub use Rattle.book.specs.declared.figures.Measure.TheVariants.{Number, Value}
pub use Rattle.book.specs.declared.figures.Posting.{Posting}
pub use Rattle.book.specs.declared.figures.Summary.{Summary}
pub use Rattle.book.specs.declared.pairs.Entry.{Entry}
pub use Rattle.book.specs.declared.pairs.Pair.{Pair}
pub use Rattle.book.specs.declared.rows.Row.{Row}
pub use Rattle.book.specs.declared.sides.Sides.{Sides}
pub use Rattle.history.specs.History.{day_of, entries, parts, settled_on, closed, book_of, history_of, answers, accepted_onto, cancelled_on}
pub use Rattle.history.specs.History.{cancelled_before, is_close}
pub use Rattle.history.specs.Sums.{sum_of, counts, of_two, over_pairs, in_both}
