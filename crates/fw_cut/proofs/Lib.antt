mod RecordFacts
mod HeaderFacts
mod RunFacts
mod CutFacts
mod StopFacts
mod PieceFacts
mod PartFacts
mod CountFacts
