mod LikeLemmas
