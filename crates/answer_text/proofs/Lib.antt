mod Edges
mod Halves
