mod MeshLemmas
