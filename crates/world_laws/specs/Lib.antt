pub mod WorldLaws
pub mod EndLaws
pub mod StepLaws
pub mod Playing
pub mod HopLaws
