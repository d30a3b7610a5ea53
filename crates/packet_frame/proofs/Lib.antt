mod Layers
mod Results
mod Rows
mod Tables
