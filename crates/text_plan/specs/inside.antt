pub mod LayerLines
