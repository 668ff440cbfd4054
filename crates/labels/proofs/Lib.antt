pub mod LabelValues
