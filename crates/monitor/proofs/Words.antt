-- The words that several pages of proofs share, brought in from where they are defined.
pub use Rattle.std.proofs.Common.{◌++◌, ◌≡◌, ◌+◌, ◌≤◌, ap, refl, sym, arith, take, drop, rules, ⊎_elim}
pub use Rattle.book.specs.declared.calls.Refusal.{Refusal}
unfoldable pub use Rattle.lines.proofs.Scanned.{lines_from, has_lines}
pub use Rattle.lines.specs.Reading.{AreLines, IsLineAt, GivesLine}
pub use Rattle.lines.specs.Written.{names_line}
pub use Rattle.lines.specs.declared.reader.Line.{Line}
pub use Rattle.lines.specs.declared.reader.Line.TheVariants.{Correct, Wrong}
pub use Rattle.lines.specs.declared.reader.Lines.{Lines}
pub use Rattle.monitor.specs.ListTable.{list_names, participant_line, both_lists}
pub use Rattle.monitor.specs.Replay.{file_limit, answer_to_line, after_line, answers_from, HasLines, calls_in, replayed, IsReplayed}
unfoldable pub use Rattle.monitor.specs.ReportTable.{report_names, report_fields, category_line, category_lines}
unfoldable pub use Rattle.monitor.specs.RowText.{row_fields}
unfoldable pub use Rattle.monitor.specs.Table.{day_line, table_of}
unfoldable pub use Rattle.monitor.specs.Texts.{refused_text, IsTextOf}
pub use Rattle.monitor.specs.declared.answers.TheConstants.{ANSWER_ROOM}
pub use Rattle.monitor.specs.declared.replay.LineAnswer.{LineAnswer}
pub use Rattle.monitor.specs.declared.replay.Replayed.{Replayed}
pub use Rattle.ranking.specs.declared.participant.Participant.{Participant}
unfoldable pub use Rattle.reports.specs.Sums.{sums_of}
pub use Rattle.std.proofs.lemmas.Fmt.{length-decimal-le}
pub use Rattle.std.specs.List.{flat_map, range_with_len}
