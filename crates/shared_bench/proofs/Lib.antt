mod Rights
