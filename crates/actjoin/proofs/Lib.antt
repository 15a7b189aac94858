pub mod PutFacts
pub mod SettingsFacts
pub mod EndFacts
pub mod ApartFacts
pub mod SumFacts
pub mod DemoEndFacts
