pub mod CommandsLaws
pub mod HoursLaws
pub mod LinesLaws
pub mod PieceLaws
pub mod WholeLaws
pub mod WordsLaws
