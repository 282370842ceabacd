pub mod DailyBalance
