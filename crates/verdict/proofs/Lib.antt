pub mod PastEnd
