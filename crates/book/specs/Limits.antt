-- The limits of a book.
use Rattle.std.specs.Prelude.{ℕ}

-- business days, 0 to 63
abbrev pub day_limit : ℕ
day_limit = 64

-- categories 1 to 9, points (i) to (ix) of Article 13(1)(c) of Delegated Regulation (EU) 2018/1229
abbrev pub category_count : ℕ
category_count = 9

-- a cell for each day and category
abbrev pub cell_count : ℕ
cell_count = 576

-- pairs open at one time
abbrev pub open_limit : ℕ
open_limit = 1024

-- ids are 1 to this
abbrev pub largest_id : ℕ
largest_id = 65535

-- amounts are 1 to this, in euro cents, of one SI
abbrev pub largest_amount : ℕ
largest_amount = 10000000000

-- codes of participants are 1 to this
abbrev pub largest_code : ℕ
largest_code = 40

-- a summary for each day and participant
abbrev pub summary_count : ℕ
summary_count = 2560
